use Rattle.turn_runs_laws.proofs.AnyNumber.{any_number_fails, authentic_replayed, unforged_replayed}
use Rattle.turn_runs_laws.proofs.small.only_own_numbers_count.Goals as goal

pub returns : goal.returns
returns c = record {
  met = authentic_replayed;
  unforged = unforged_replayed;
  wider = any_number_fails;
}
