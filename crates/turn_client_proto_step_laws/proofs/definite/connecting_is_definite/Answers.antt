use Rattle.turn_client_proto_step_laws.proofs.Once.Connecting.{connect_same}
use Rattle.turn_client_proto_step_laws.proofs.definite.connecting_is_definite.Goals as goal

pub returns : goal.returns
returns c = λ old one other peer now answer again enough ample a b. connect_same old peer now answer again one other enough ample a b
