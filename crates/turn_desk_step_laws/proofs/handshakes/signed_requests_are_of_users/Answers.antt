use Rattle.turn_client_proto_messages.specs.Requests.{request_text}
use Rattle.turn_desk_step_laws.proofs.Requesting.{as_requested}
use Rattle.turn_desk_step_laws.proofs.handshakes.signed_requests_are_of_users.Goals as goal

pub returns : goal.returns
returns c = λ server from auth request number s short reads lawful fits signed occurs own.
    as_requested server from auth s (request_text auth request number) short occurs
    (c.signed_requests_claim.ensures auth request number s short reads lawful fits signed occurs)
    (c.proof_requests_are_read.ensures.valid auth request number s short lawful fits signed occurs) own
