use Rattle.turn_client_proto_step_laws.proofs.Once.Calling.{delete_same}
use Rattle.turn_client_proto_step_laws.proofs.definite.deleting_is_definite.Goals as goal

pub returns : goal.returns
returns c = λ old one other now answer again enough ample a b. delete_same old now answer again one other enough ample a b
