use Rattle.turn_client_proto_progress_laws.specs.Asking.{AnyCount}
use Rattle.turn_client_proto_progress_laws.proofs.Asking.Own.{is_own}
use Rattle.turn_client_proto_progress_laws.proofs.RequestChallenged.{challenge_answered}
use Rattle.turn_client_proto_progress_laws.proofs.challenged_requests.challenged_requests_are_made_again.Goals as goal

pub returns-clause-again : goal.returns-clause-again
returns-clause-again c = λ b realm address wanted request until beyond now later times old new message reported handled h is may early processed.
    challenge_answered b realm address wanted request until beyond AnyCount old h c.signed_requests_claim.ensures message reported is times may now later early handled new processed

pub returns-clause-own : goal.returns-clause-own
returns-clause-own c = λ b realm address wanted request until beyond p h. is_own b realm address wanted request until beyond AnyCount p h
    (record {
      message = c.proof_requests_are_read.ensures.message;
      number = c.proof_requests_are_read.ensures.number;
      kind = λ client r number short lawful fits. (c.proof_requests_are_read.ensures.read client r number short lawful fits).kind;
    })
    c.signed_requests_claim.ensures
