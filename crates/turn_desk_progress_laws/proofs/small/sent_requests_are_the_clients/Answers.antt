use Rattle.std.proofs.Common.{◌<◌, ◌≡◌, ℕ, arith, ap, refl, subst, inl, inr}
use Rattle.turn_client_proto_api.specs.Sent.{Sent}
use Rattle.turn_desk_core.specs.StunTypesWire.Grammar.{number_at}
use Rattle.turn_desk_progress_laws.proofs.SmallLoop.{second_due, second_slot}
use Rattle.turn_desk_progress_laws.proofs.small.sent_requests_are_the_clients.Goals as goal

never : {A : Type 0} (a : ℕ) → a < a → A
never a less = absurd (omega (arith, less))

pub returns-clause-numbered : goal.returns-clause-numbered
returns-clause-numbered c = λ plan t now request sent differs is. elim is.either [
  | inl nothing ↦ Prim.cc nothing
  | inr same ↦ differs (ap (λ (s : Sent). number_at s.bytes) same)
]

pub returns-clause-altered : goal.returns-clause-altered
returns-clause-altered c = λ plan t now request sent differs is. elim is.either [
  | inl nothing ↦ Prim.cc nothing
  | inr same ↦ differs same
]

pub returns-clause-unkeyed : goal.returns-clause-unkeyed
returns-clause-unkeyed c = λ plan old request wrong is. wrong is.algorithm is.right

pub returns-clause-strange : goal.returns-clause-strange
returns-clause-strange c = λ plan old request elsewhere is. elsewhere is.is_own.from

pub returns-clause-again : goal.returns-clause-again
returns-clause-again c = λ e. record {
  in_time = λ due before. refl;
  late = λ due late. refl;
  none = λ none. never 520_000_000 (subst (λ (n : ℕ). 520_000_000 < n) (second_slot e) (none (second_due e).0));
  either = inr refl;
}
