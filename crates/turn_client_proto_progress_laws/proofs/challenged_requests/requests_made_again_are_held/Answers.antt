use Rattle.turn_client_proto_progress_laws.specs.Asking.{APermission, AChannel, AnyCount}
use Rattle.turn_client_proto_progress_laws.proofs.Asking.Own.{AreRead, claims_own, shows_method, shows_number}
use Rattle.turn_client_proto_progress_laws.proofs.Asking.Bound.{binds}
use Rattle.turn_client_proto_progress_laws.proofs.Asking.Granted.{holds}
use Rattle.turn_client_proto_progress_laws.proofs.challenged_requests.requests_made_again_are_held.Goals as goal

read : (c : goal.After-signed_requests_claim) → AreRead
read c = record {
  message = c.proof_requests_are_read.ensures.message;
  number = c.proof_requests_are_read.ensures.number;
  kind = λ client r number short lawful fits. (c.proof_requests_are_read.ensures.read client r number short lawful fits).kind;
}

pub returns-clause-permission : goal.returns-clause-permission
returns-clause-permission c = λ b realm address ip request reply until beyond now old new handled h grant processed.
    holds b realm address ip request until beyond now AnyCount old h reply (shows_number b realm address (APermission ip) request until beyond AnyCount old h (read c)) (claims_own b realm address (APermission ip) request until beyond AnyCount old h c.signed_requests_claim.ensures)
    (shows_method b realm address (APermission ip) request until beyond AnyCount old h (read c)) grant handled new processed

pub returns-clause-channel : goal.returns-clause-channel
returns-clause-channel c = λ b realm address channel peer request reply until beyond now old new handled h grant processed.
    binds b realm address channel peer request until beyond now AnyCount old h reply (shows_number b realm address (AChannel channel peer) request until beyond AnyCount old h (read c))
    (claims_own b realm address (AChannel channel peer) request until beyond AnyCount old h c.signed_requests_claim.ensures) (shows_method b realm address (AChannel channel peer) request until beyond AnyCount old h (read c)) grant handled new processed
