use Rattle.turn_runs_laws.proofs.AnyRealm.{wider_fails}
use Rattle.turn_runs_laws.proofs.Rounds.{authentic}
use Rattle.turn_runs_laws.proofs.small.only_named_realms_count.Goals as goal

pub returns : goal.returns
returns c = record {
  met = λ a n count. authentic a count n;
  wider = wider_fails;
}
