use Rattle.turn_client_proto_progress_laws.specs.Asking.{AnyCount, APermission}
use Rattle.turn_client_proto_progress_laws.proofs.Asking.Own.{AreRead, claims_own, shows_method, shows_number}
use Rattle.turn_client_proto_progress_laws.proofs.Asking.Granted.{holds, says_so}
use Rattle.turn_client_proto_progress_laws.proofs.requests.granted_permissions_are_held.Goals as goal

read : (c : goal.After-signed_requests_claim) → AreRead
read c = record {
  message = c.proof_requests_are_read.ensures.message;
  number = c.proof_requests_are_read.ensures.number;
  kind = λ client r number short lawful fits. (c.proof_requests_are_read.ensures.read client r number short lawful fits).kind;
}

pub returns-clause-holds : goal.returns-clause-holds
returns-clause-holds c = λ b realm address ip request reply now old new handled is grant processed.
    holds b realm address ip request now now now AnyCount old is reply (shows_number b realm address (APermission ip) request now now AnyCount old is (read c)) (claims_own b realm address (APermission ip) request now now AnyCount old is c.signed_requests_claim.ensures)
    (shows_method b realm address (APermission ip) request now now AnyCount old is (read c)) grant handled new processed

pub returns-clause-had : goal.returns-clause-had
returns-clause-had c = λ b ip p is. says_so b ip p is
