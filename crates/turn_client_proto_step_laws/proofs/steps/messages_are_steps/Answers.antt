use Rattle.turn_client_proto_step_laws.proofs.Receiving.{receive_step}
use Rattle.turn_client_proto_step_laws.proofs.steps.messages_are_steps.Goals as goal

pub returns : goal.returns
returns c = λ client bytes now handled new sound are_bytes message is. receive_step client bytes now handled new sound are_bytes message is
