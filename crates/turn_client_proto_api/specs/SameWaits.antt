-- Equality of waits.
use Rattle.std.specs.Prelude.{Bool, nat_eq}
use Rattle.std.specs.Ordering.{on, eq_of_both}
use Rattle.std.specs.Option.{option_eq}
use Rattle.std.specs.Cmp.{IsEquivalence, on_equiv, and_equiv, nat_eq_equiv}
use Rattle.std.specs.Cmp.Lexicographic.{options_equiv}
use Rattle.stun_proto_agent.specs.Transaction.Schedule.{Waits}

-- All fields are equal.
abbrev pub same_waits : Waits → Waits → Bool
same_waits = eq_of_both (on (λ (w : Waits). w.most) (option_eq nat_eq))
    (eq_of_both (on (λ (w : Waits). w.initial) nat_eq)
    (eq_of_both (on (λ (w : Waits). w.retransmits) nat_eq) (on (λ (w : Waits). w.final) nat_eq)))

pub same_waits_equiv : IsEquivalence same_waits
same_waits_equiv = and_equiv (on_equiv (λ (w : Waits). w.most) (options_equiv nat_eq_equiv))
    (and_equiv (on_equiv (λ (w : Waits). w.initial) nat_eq_equiv)
    (and_equiv (on_equiv (λ (w : Waits). w.retransmits) nat_eq_equiv) (on_equiv (λ (w : Waits). w.final) nat_eq_equiv)))
