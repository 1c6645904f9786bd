use Rattle.turn_client_proto_step_laws.proofs.Ending.{ended_step}
use Rattle.turn_client_proto_step_laws.proofs.steps.ends_are_steps.Goals as goal

pub returns : goal.returns
returns c = λ client sound. ended_step client sound
