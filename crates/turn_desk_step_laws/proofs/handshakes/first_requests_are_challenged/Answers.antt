use Rattle.turn_client_proto_messages.specs.Requests.{request_text}
use Rattle.turn_client_proto_messages.specs.declared.request.TurnRequest.TheVariants.{FirstAllocate}
use Rattle.turn_desk_step_laws.proofs.Requesting.{is_served_first, is_unsigned}
use Rattle.turn_desk_step_laws.proofs.handshakes.first_requests_are_challenged.Goals as goal

pub returns : goal.returns
returns c = λ old new from auth transport families options number now stream decision reply short few fits unknown answer.
    let read = c.proof_requests_are_read.ensures.read auth (FirstAllocate transport families options) number short few fits in
    c.strangers_are_challenged.ensures old new from (request_text auth (FirstAllocate transport families options) number) reply now stream decision
    (is_served_first auth transport families options number read) unknown (is_unsigned auth transport families options number read) answer
