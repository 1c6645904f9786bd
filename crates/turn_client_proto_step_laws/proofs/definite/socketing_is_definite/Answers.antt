use Rattle.turn_client_proto_step_laws.proofs.Once.Sockets.{socket_same}
use Rattle.turn_client_proto_step_laws.proofs.definite.socketing_is_definite.Goals as goal

pub returns : goal.returns
returns c = λ old one other number s peer here now answer again enough ample a b. socket_same old number peer now s here answer again one other enough ample a b
