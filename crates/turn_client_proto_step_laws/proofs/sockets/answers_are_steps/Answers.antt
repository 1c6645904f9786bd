use Rattle.turn_client_proto_step_laws.proofs.Answering.{answer_step}
use Rattle.turn_client_proto_step_laws.proofs.sockets.answers_are_steps.Goals as goal

pub returns : goal.returns
returns c = λ client here bytes now new sound are_bytes message is. answer_step client bytes now new here sound are_bytes message is
