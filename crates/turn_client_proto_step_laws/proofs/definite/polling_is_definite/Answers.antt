use Rattle.turn_client_proto_step_laws.proofs.Once.Polling.{poll_same}
use Rattle.turn_client_proto_step_laws.proofs.definite.polling_is_definite.Goals as goal

pub returns : goal.returns
returns c = λ old one other now answer again enough ample a b. poll_same old now answer again one other enough ample a b
