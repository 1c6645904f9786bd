use Rattle.turn_client_proto_step_laws.proofs.Once.Processing.{processed_definite}
use Rattle.turn_client_proto_step_laws.proofs.definite.processing_is_definite.Goals as goal

pub returns : goal.returns
returns c = λ old one other bytes now handled again a b. (processed_definite old bytes now).same handled again one other a b
