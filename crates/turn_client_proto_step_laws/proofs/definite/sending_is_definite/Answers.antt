use Rattle.turn_client_proto_step_laws.proofs.Once.Sending.{send_same}
use Rattle.turn_client_proto_step_laws.proofs.definite.sending_is_definite.Goals as goal

pub returns : goal.returns
returns c = λ old one other transport to bytes now answer again a b. send_same old transport to bytes now answer again one other a b
