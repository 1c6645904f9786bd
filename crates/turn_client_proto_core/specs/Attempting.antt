-- The server's own requests and indications: a peer opened a connection (RFC 6062, section 4.4).
use Rattle.std.specs.Prelude.{ℕ, ◌==◌, nat_le, length, Bool, false, ◌&&◌, List, [], ◌∷◌, ◌++◌, find, Option, Some, None, if◌then◌else◌}
use Rattle.std.specs.Bool.{MatchBool}
use Rattle.std.specs.declared.net.socket_addr.SocketAddr.{SocketAddr}
use Rattle.stun_types_wire.specs.Attributes.{kind_at}
use Rattle.stun_types_base.specs.Family.{family_of_socket}
use Rattle.stun_types_wire.specs.Grammar.{number_at}
use Rattle.stun_types_wire.specs.Types.{method_of}
use Rattle.turn_types_attributes.specs.TurnRegistry.{connection_attempt_method}
use Rattle.stun_types_base.specs.declared.transport.TransportType.TheVariants.{Tcp}
use Rattle.turn_client_proto_allocation.specs.Changes.{change_first}
use Rattle.turn_client_proto_allocation.specs.Same.{is_same_transport}
use Rattle.turn_client_proto_allocation.specs.declared.allocation.Allocation.{Allocation}
use Rattle.turn_client_proto_connection.specs.Attempts.{attempted, is_joining, offered}
use Rattle.stun_proto_agent.specs.Sending.{is_request}
use Rattle.turn_client_proto_peers.specs.Permission.Asking.{is_of}
use Rattle.turn_client_proto_messages.specs.Answers.{answer_text}
use Rattle.turn_client_proto_messages.specs.Waiting.{Queued}
use Rattle.turn_client_proto_messages.specs.declared.answer.AttemptAnswer.{AttemptAnswer}
use Rattle.turn_client_proto_messages.specs.declared.answer.AttemptAnswer.TheVariants.{AlreadyExists, BadRequest, Failed}
use Rattle.turn_client_proto_messages.specs.Reported.{connection_reported, peer_reported}
use Rattle.turn_client_proto_core.specs.Outcomes.{IsHandled, IsIgnored}
use Rattle.turn_client_proto_core.specs.declared.protocol.Protocol.{Protocol}

-- ---- results

-- A queued response, to be sent from this address.
abbrev pub queued_answer : SocketAddr → List ℕ → Queued
queued_answer from bytes = record { bytes = bytes; from = from; is_request = false }

-- The client after it queued the response to the server's request `transaction_id`, to be sent from the client's own
-- address.
unfoldable pub answering : AttemptAnswer → (transaction_id : ℕ) → Protocol → Protocol
answering answer transaction_id p = record p {
  queue = p.queue ++ queued_answer p.agent.here (answer_text p.auth answer transaction_id) ∷ [];
}

-- There are as many as the limit allows, or more. Without a limit there never are.
unfoldable pub is_at_limit : (limit : Option ℕ) → (count : ℕ) → Bool
is_at_limit None count = false
is_at_limit (Some limit) count = nat_le limit count

-- The client after it rejected the server's request `transaction_id`: the response is queued, unless as many
-- messages as its limit allows wait to be sent. Then the request is ignored, as if it had not come.
unfoldable pub rejecting : AttemptAnswer → (transaction_id : ℕ) → Protocol → Protocol
rejecting answer transaction_id p = if is_at_limit p.max_connection_attempts (length p.queue) then p
    else answering answer transaction_id p

-- ---- a CONNECTION_ATTEMPT

-- The message is a CONNECTION_ATTEMPT request: it announces a connection that a peer opened.
abbrev pub is_attempt : List ℕ → Bool
is_attempt bytes = is_request bytes && (method_of (kind_at bytes) == connection_attempt_method)

-- The allocation may have a connection to this peer: its transport is that of the control connection, and its
-- family is the peer's.
abbrev pub may_join : SocketAddr → Protocol → Allocation → Bool
may_join peer p a = is_of p.agent.transport (family_of_socket peer) a

-- The client after a CONNECTION_ATTEMPT, by the first allocation that may have a connection to the peer.
-- Without one the request is rejected as bad. If the allocation has a connection to the peer, or one that
-- waits for its socket, the request is rejected because the connection exists. If as many connections as the
-- client's limit allows wait for their socket in it, the connection fails. Otherwise it waits for its socket.
abbrev pub after_attempt_in : Option Allocation → (connection : ℕ) → SocketAddr → (transaction_id : ℕ) → Protocol → Protocol
after_attempt_in None connection peer transaction_id p = rejecting BadRequest transaction_id p
after_attempt_in (Some a) connection peer transaction_id p =
    if is_joining peer a then rejecting AlreadyExists transaction_id p
    else if is_at_limit p.max_connection_attempts (length a.waiting) then rejecting Failed transaction_id p
    else record p { allocations = change_first (may_join peer p) (attempted connection peer transaction_id) p.allocations }

-- The client after a CONNECTION_ATTEMPT, by its CONNECTION-ID and its XOR-PEER-ADDRESS.
abbrev pub after_attempt_of : Option ℕ → Option SocketAddr → (transaction_id : ℕ) → Protocol → Protocol
after_attempt_of (Some connection) (Some peer) transaction_id p =
    after_attempt_in (find (may_join peer p) p.allocations) connection peer transaction_id p
after_attempt_of (Some connection) None transaction_id p = rejecting BadRequest transaction_id p
after_attempt_of None peer transaction_id p = rejecting BadRequest transaction_id p

abbrev pub after_attempt : List ℕ → Protocol → Protocol
after_attempt bytes p = after_attempt_of (connection_reported bytes) (peer_reported bytes) (number_at bytes) p

-- The outcome of a validated request of the server. A request of another method is not for the client. A
-- CONNECTION_ATTEMPT is, also where it is ignored because too many messages wait to be sent.
abbrev pub IsAttemptTaken : Protocol → List ℕ → Bool → Protocol → Type 0
IsAttemptTaken p bytes handled new = MatchBool (is_attempt bytes)
    (IsHandled (after_attempt bytes p) handled new)
    (IsIgnored p handled new)

-- ---- a CONNECTION_ATTEMPT indication

-- How many connections may wait for their socket while an indication adds one: 64 without a limit.
unfoldable pub offers_limit : (limit : Option ℕ) → ℕ
offers_limit None = 64
offers_limit (Some limit) = limit

-- The client accepts indications as announcements, it allocates over TCP, and this indication is a
-- CONNECTION_ATTEMPT.
abbrev pub takes_offer : Protocol → List ℕ → Bool
takes_offer p bytes = p.attempt_indications
    && (is_same_transport p.allocates Tcp && (method_of (kind_at bytes) == connection_attempt_method))

-- The client after such an indication, by the first allocation that may have a connection to the peer. Nothing
-- changes without one, or if that one has a connection to the peer, one that waits for its socket, or as many that
-- wait as are allowed. Otherwise the connection waits for its socket.
abbrev pub after_offer_in : Option Allocation → (connection : ℕ) → SocketAddr → Protocol → Protocol
after_offer_in None connection peer p = p
after_offer_in (Some a) connection peer p =
    if is_joining peer a then p
    else if nat_le (offers_limit p.max_connection_attempts) (length a.waiting) then p
    else record p { allocations = change_first (may_join peer p) (offered connection peer) p.allocations }

-- The client after such an indication, by its CONNECTION-ID and its XOR-PEER-ADDRESS.
abbrev pub after_offer_of : Option ℕ → Option SocketAddr → Protocol → Protocol
after_offer_of (Some connection) (Some peer) p = after_offer_in (find (may_join peer p) p.allocations) connection peer p
after_offer_of (Some connection) None p = p
after_offer_of None peer p = p

abbrev pub after_offer : List ℕ → Protocol → Protocol
after_offer bytes p = after_offer_of (connection_reported bytes) (peer_reported bytes) p

-- The outcome of an indication. Only a CONNECTION_ATTEMPT is for the client, and only if it accepts such, also
-- where nothing changes.
abbrev pub IsIndicationTaken : Protocol → List ℕ → Bool → Protocol → Type 0
IsIndicationTaken p bytes handled new = MatchBool (takes_offer p bytes)
    (IsHandled (after_offer bytes p) handled new)
    (IsIgnored p handled new)
