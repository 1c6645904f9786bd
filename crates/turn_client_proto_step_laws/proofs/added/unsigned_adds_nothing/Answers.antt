use Rattle.turn_client_proto_step_laws.proofs.Answered.{processed_at_unsigned, processed_unsigned, none_signed}
use Rattle.turn_client_proto_step_laws.proofs.added.unsigned_adds_nothing.Goals as goal

pub returns : goal.returns
returns c = record {
  processed = λ client bytes now handled new sound are_bytes message isnt is. processed_unsigned client bytes now handled new sound are_bytes message isnt is;
  processed_at = λ client here bytes now new sound are_bytes message isnt is. processed_at_unsigned client here bytes now new sound are_bytes message isnt is;
  unsigned = λ bytes key text algorithm none valid. none_signed bytes key text algorithm none valid;
}
