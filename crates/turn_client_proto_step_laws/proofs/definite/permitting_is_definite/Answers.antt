use Rattle.turn_client_proto_step_laws.proofs.Once.Calling.{permission_same}
use Rattle.turn_client_proto_step_laws.proofs.definite.permitting_is_definite.Goals as goal

pub returns : goal.returns
returns c = λ old one other transport ip now answer again enough ample a b. permission_same old transport ip now answer again one other enough ample a b
