use Rattle.turn_client_proto_messages.proofs.Claims.{claim_law}
use Rattle.turn_client_proto_messages.proofs.laws.signed_requests_claim.Goals as goal

pub returns : goal.returns
returns c = λ client request number standing short reads lawful n signed occurs. claim_law client request number standing short reads lawful n signed occurs
