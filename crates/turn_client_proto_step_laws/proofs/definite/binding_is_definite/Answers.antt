use Rattle.turn_client_proto_step_laws.proofs.Once.Channels.{bind_same}
use Rattle.turn_client_proto_step_laws.proofs.definite.binding_is_definite.Goals as goal

pub returns : goal.returns
returns c = λ old one other transport peer now answer again enough ample a b. bind_same old transport peer now answer again one other enough ample a b
