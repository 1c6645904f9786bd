use Rattle.std.proofs.Common.{refl}
use Rattle.turn_runs_laws.proofs.OtherKeys.{none_by_sha256}
use Rattle.turn_runs_laws.proofs.small.only_the_chosen_algorithm_is_taken.Goals as goal

pub returns : goal.returns
returns c = record {
  right = (refl, refl, refl);
  steps = none_by_sha256;
}
