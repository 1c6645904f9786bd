use Rattle.turn_client_proto_step_laws.proofs.Once.Answers.{processed_single}
use Rattle.turn_client_proto_step_laws.proofs.definite.processing_at_is_definite.Goals as goal

pub returns : goal.returns
returns c = λ old one other here bytes now a b. (processed_single here bytes now old).same one other a b
