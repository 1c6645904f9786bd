use Rattle.turn_client_proto_step_laws.proofs.Once.Drawing.{draw_same}
use Rattle.turn_client_proto_step_laws.proofs.definite.drawing_is_definite.Goals as goal

pub returns : goal.returns
returns c = λ old one other now answer again a b. draw_same old now answer again one other a b
