use Rattle.turn_client_proto_step_laws.proofs.Drawing.{draw_step}
use Rattle.turn_client_proto_step_laws.proofs.steps.draws_are_steps.Goals as goal

pub returns : goal.returns
returns c = λ client now answer new sound is. draw_step client now answer new sound is
