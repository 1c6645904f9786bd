use Rattle.std.proofs.Common.{◌<◌, ℕ, arith, subst, refl}
use Rattle.turn_desk_progress_laws.proofs.SmallLoop.{first_due, first_none, first_slot, second_none}
use Rattle.turn_desk_progress_laws.proofs.small.draws_keep_the_schedule.Goals as goal

never : {A : Type 0} (a : ℕ) → a < a → A
never a less = absurd (omega (arith, less))

pub returns-clause-due : goal.returns-clause-due
returns-clause-due c = λ e is. is.due (first_due e)

pub returns-clause-early : goal.returns-clause-early
returns-clause-early c = λ e is. Prim.cc (is.none (first_none e))

pub returns-clause-unsigned : goal.returns-clause-unsigned
returns-clause-unsigned c = λ e old is. is.signs (omega arith)

pub returns-clause-soon : goal.returns-clause-soon
returns-clause-soon c = λ e old is. Prim.cc (is.rests (omega arith) (second_none e))

pub returns-clause-request_made : goal.returns-clause-request_made
returns-clause-request_made c = λ e same. record {
  due = λ due. same;
  none = λ none. never 500_000_000 (subst (λ (n : ℕ). 500_000_000 < n) (first_slot e) (none (first_due e).0));
}

pub returns-clause-signed : goal.returns-clause-signed
returns-clause-signed c = λ e old is. record {
  signs = λ late. is;
  again = λ due. is;
  rests = λ early none. absurd (omega (arith, early));
}
