-- The transaction ID in a request's bytes.
use Rattle.std.proofs.Common.{◌≡◌, ℕ, ◌<◌, ◌^◌, None, refl, ap, ◌∙◌, arith}
use Rattle.std.specs.FinMap as map
use Rattle.stun_types_wire.specs.Grammar.{number_at}
use Rattle.stun_types_wire.specs.Text.{header_text, message_text}
use Rattle.stun_proto_client.specs.Client.{Client, plain_style}
use Rattle.stun_proto_agent.specs.State.{Agent}
use Rattle.turn_client_proto_messages.specs.Requests.{request_text}
use Rattle.turn_client_proto_messages.specs.ShortTexts.{HasShortTexts}
use Rattle.turn_client_proto_messages.specs.declared.request.TurnRequest.{TurnRequest}
use Rattle.turn_client_proto_messages.specs.declared.request.TurnRequest.TheVariants.{Refresh}
use Rattle.turn_client_proto_messages.proofs.Reading.{number_law}
use Rattle.turn_client_proto_core.specs.Numbering.{IsUnused}

-- A client that signs nothing.
abbrev bare : Client → Client
bare client = record client { account = None; next_account = None; style = plain_style; challenge = None }

bare_short : (client : Client) → HasShortTexts (bare client)
bare_short client = record { username = tt; next = tt; software = tt; challenge = tt }

-- The transaction ID is in the header, so it depends neither on the request nor on who signs it.
same_number : (client other : Client) (request another : TurnRequest) (number : ℕ) → number_at (request_text client request number) ≡ number_at (request_text other another number)
unfolding request_text message_text header_text number_at
same_number client other request another number = refl

pub number_visible : (client : Client) (request : TurnRequest) (number : ℕ) → number < 2 ^ 96 → number_at (request_text client request number) ≡ number
number_visible client request number fits =
    same_number client (bare client) request (Refresh 0) number ∙ number_law (bare client) (Refresh 0) number (bare_short client) (omega arith) fits

-- The transaction ID in the bytes of a request with an unused transaction ID isn't outstanding.
pub none_visible : (agent : Agent) (client : Client) (request : TurnRequest) (number : ℕ) → IsUnused agent number → map.get agent.outstanding (number_at (request_text client request number)) ≡ None
none_visible agent client request number free = ap (λ (n : ℕ). map.get agent.outstanding n) (number_visible client request number free.fits) ∙ free.none
