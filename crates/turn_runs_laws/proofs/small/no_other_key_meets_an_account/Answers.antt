use Rattle.std.proofs.Common.{refl, arith}
use Rattle.turn_runs_laws.proofs.OtherKeys.{no_step, none_gained, none_unnamed, none_unsent}
use Rattle.turn_runs_laws.proofs.small.no_other_key_meets_an_account.Goals as goal

pub returns : goal.returns
returns c = record {
  unnamed = none_unnamed;
  unsent = none_unsent;
  right = λ key. (refl, refl, refl);
  others = ((λ e. omega (arith, e)), (λ e. omega (arith, e)));
  gained = none_gained;
  steps = no_step;
}
