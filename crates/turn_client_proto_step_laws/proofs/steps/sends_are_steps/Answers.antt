use Rattle.turn_client_proto_step_laws.proofs.Sending.{send_step}
use Rattle.turn_client_proto_step_laws.proofs.steps.sends_are_steps.Goals as goal

pub returns : goal.returns
returns c = λ client transport to bytes now answer new sound is. send_step client transport to bytes now answer new sound is
