use Rattle.turn_client_proto_progress_laws.specs.Asking.{AnyCount}
use Rattle.turn_client_proto_progress_laws.proofs.Asking.Own.{is_own}
use Rattle.turn_client_proto_progress_laws.proofs.requests.requests_are_own.Goals as goal

pub returns : goal.returns
returns c = λ b realm address wanted request now p is. is_own b realm address wanted request now now AnyCount p is
    (record {
      message = c.proof_requests_are_read.ensures.message;
      number = c.proof_requests_are_read.ensures.number;
      kind = λ client r number short lawful fits. (c.proof_requests_are_read.ensures.read client r number short lawful fits).kind;
    })
    c.signed_requests_claim.ensures
