use Rattle.turn_desk_world_laws.proofs.Safe.{run_is_safe}
use Rattle.turn_desk_world_laws.proofs.laws.runs_of_a_world_are_safe.Goals as goal

pub returns : goal.returns
returns c = λ old new pairs run. run_is_safe pairs old new run
