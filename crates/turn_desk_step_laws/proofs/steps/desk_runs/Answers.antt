use Rattle.turn_desk_step_laws.proofs.Stepping.{desk_run}
use Rattle.turn_desk_step_laws.proofs.steps.desk_runs.Goals as goal

pub returns : goal.returns
returns c = desk_run
