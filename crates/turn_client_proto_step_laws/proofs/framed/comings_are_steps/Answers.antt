use Rattle.turn_client_proto_step_laws.proofs.Frames.{coming_step}
use Rattle.turn_client_proto_step_laws.proofs.framed.comings_are_steps.Goals as goal

pub returns : goal.returns
returns c = λ client came waiting sound of_these. coming_step client sound came waiting of_these
