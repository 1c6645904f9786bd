use Rattle.turn_desk_core.proofs.StepLaws.{answer_step}
use Rattle.turn_desk_core.proofs.laws.desk_steps.Goals as goal

pub returns : goal.returns
returns c = answer_step
