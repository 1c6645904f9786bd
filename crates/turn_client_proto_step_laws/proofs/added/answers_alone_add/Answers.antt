use Rattle.turn_client_proto_step_laws.proofs.Answered.{processed_adds, processed_at_adds}
use Rattle.turn_client_proto_step_laws.proofs.added.answers_alone_add.Goals as goal

pub returns : goal.returns
returns c = record {
  processed = λ client bytes now handled new sound are_bytes message is. processed_adds client bytes now handled new sound are_bytes message is;
  processed_at = λ client here bytes now new sound are_bytes message is. processed_at_adds client here bytes now new sound are_bytes message is;
}
