use Rattle.turn_client_proto_progress_laws.specs.Asking.{AnyCount, AChannel}
use Rattle.turn_client_proto_progress_laws.proofs.Asking.Bound.{binds, shows_it}
use Rattle.turn_client_proto_progress_laws.proofs.Asking.Own.{AreRead, claims_own, shows_method, shows_number}
use Rattle.turn_client_proto_progress_laws.proofs.channels.granted_channels_are_held.Goals as goal

read : (c : goal.After-signed_requests_claim) → AreRead
read c = record {
  message = c.proof_requests_are_read.ensures.message;
  number = c.proof_requests_are_read.ensures.number;
  kind = λ client r number short lawful fits. (c.proof_requests_are_read.ensures.read client r number short lawful fits).kind;
}

pub returns-clause-holds : goal.returns-clause-holds
returns-clause-holds c = λ b realm address channel peer request reply now old new handled is grant processed.
    binds b realm address channel peer request now now now AnyCount old is reply (shows_number b realm address (AChannel channel peer) request now now AnyCount old is (read c))
    (claims_own b realm address (AChannel channel peer) request now now AnyCount old is c.signed_requests_claim.ensures) (shows_method b realm address (AChannel channel peer) request now now AnyCount old is (read c)) grant handled new processed

pub returns-clause-visible : goal.returns-clause-visible
returns-clause-visible c = λ b channel peer p is. shows_it b channel peer p is
