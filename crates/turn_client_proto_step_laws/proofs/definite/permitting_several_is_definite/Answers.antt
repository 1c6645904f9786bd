use Rattle.turn_client_proto_step_laws.proofs.Once.Calling.{permissions_same}
use Rattle.turn_client_proto_step_laws.proofs.definite.permitting_several_is_definite.Goals as goal

pub returns : goal.returns
returns c = λ old one other transport ips now answer again enough ample a b. permissions_same old transport ips now answer again one other enough ample a b
