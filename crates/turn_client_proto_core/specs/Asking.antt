-- What a client stores when it makes a request (RFC 8489, section 6.2).
use Rattle.std.specs.Prelude.{ℕ, true, List, [], ◌∷◌, ◌++◌}
use Rattle.std.specs.declared.net.socket_addr.SocketAddr.{SocketAddr}
use Rattle.stun_proto_agent.specs.Sending.{with_request}
use Rattle.turn_client_proto_messages.specs.Requests.{request_text}
use Rattle.turn_client_proto_messages.specs.declared.request.TurnRequest.{TurnRequest}
use Rattle.turn_client_proto_messages.specs.Waiting.{Queued}
use Rattle.turn_client_proto_core.specs.declared.protocol.Protocol.{Protocol}

-- A queued request, to be sent from this address.
abbrev pub queued_request : SocketAddr → List ℕ → Queued
queued_request from bytes = record { bytes = bytes; from = from; is_request = true }

-- The client after it queued a request with `transaction_id`, to be sent from this address. The
-- request is outstanding.
abbrev pub requested_from : SocketAddr → Protocol → TurnRequest → ℕ → ℕ → Protocol
requested_from from p request transaction_id now = record p {
  agent = with_request p.agent (request_text p.auth request transaction_id) p.server now;
  queue = p.queue ++ queued_request from (request_text p.auth request transaction_id) ∷ [];
}

-- The client after it queued a request, to be sent from its own address.
unfoldable pub requested : Protocol → TurnRequest → ℕ → ℕ → Protocol
requested p request transaction_id now = requested_from p.agent.here p request transaction_id now
