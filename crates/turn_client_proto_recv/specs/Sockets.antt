-- Sockets that the caller reports to a client (RFC 6062, section 4.3).
use Rattle.std.specs.Prelude.{◌≡◌, ◌≢◌, ℕ, ◌<◌, ◌^◌, Bool, false, not, ◌&&◌, List, map, position, slice_get, slice_set, Option, Some, None, Result, Err, MatchResult, IfSome, IfNone, if◌then◌else◌}
use Rattle.std.specs.declared.net.socket_addr.SocketAddr.{SocketAddr}
use Rattle.stun_types_base.specs.declared.transport.TransportType.TheVariants.{Tcp}
use Rattle.turn_client_proto_allocation.specs.Changes.{change_first}
use Rattle.turn_client_proto_allocation.specs.declared.allocation.Allocation.{Allocation}
use Rattle.turn_client_proto_api.specs.declared.answer.Socket5Tuple.{Socket5Tuple}
use Rattle.turn_client_proto_api.specs.declared.error.TcpAllocateError.{TcpAllocateError}
use Rattle.turn_client_proto_api.specs.declared.error.TcpAllocateError.TheVariants.{AlreadyExists, NoAllocation, NoMemory}
use Rattle.turn_client_proto_connection.specs.Attempts.{attempt_of}
use Rattle.turn_client_proto_connection.specs.Sockets.{awaits_socket, binding, is_any_from, release, to_bind}
use Rattle.turn_client_proto_core.specs.Asking.{requested_from}
use Rattle.turn_client_proto_core.specs.Attempting.{answering}
use Rattle.turn_client_proto_core.specs.Deleting.{is_authenticated}
use Rattle.stun_types_base.specs.Times.{time_after}
use Rattle.turn_client_proto_core.specs.Numbering.{IsNextNumber, after_number}
use Rattle.turn_client_proto_core.specs.declared.protocol.Protocol.{Protocol}
use Rattle.turn_client_proto_allocation.specs.Same.{is_same_address, is_same_transport}
use Rattle.turn_client_proto_messages.specs.ReportedRequests.{IsLawfulRequest}
use Rattle.turn_client_proto_messages.specs.declared.answer.AttemptAnswer.{AttemptAnswer}
use Rattle.turn_client_proto_messages.specs.declared.answer.AttemptAnswer.TheVariants.{Accepted, Failed}
use Rattle.turn_client_proto_messages.specs.declared.request.TurnRequest.TheVariants.{ConnectionBind}

-- `transaction_id` is a transaction ID (RFC 8489, section 5).
abbrev pub IsNumber : ℕ → Type 0
IsNumber transaction_id = transaction_id < 2 ^ 96

-- How long the client waits for the response to a CONNECTION_BIND, in nanoseconds: 39.5 seconds.
abbrev pub binding_time : ℕ
binding_time = 39_500_000_000

-- The socket is that of the client's control connection.
abbrev pub is_own : Protocol → Socket5Tuple → Bool
is_own p s = is_same_transport s.transport p.agent.transport
    && (is_same_address s.from p.agent.here && is_same_address s.to p.server)

-- The client accepts sockets for this control connection: it has allocated over TCP, and the five-tuple is
-- that of its control connection.
abbrev pub takes_sockets : Protocol → Socket5Tuple → Bool
takes_sockets p s = is_same_transport p.allocates Tcp && (is_own p s && is_authenticated p.phase)

-- A connection has this local address already.
abbrev pub is_used : Option SocketAddr → List Allocation → Bool
is_used None allocations = false
is_used (Some here) allocations = is_any_from here allocations

-- Why a socket is refused. The first reason that applies counts: no allocation has a connection with this ID
-- and peer that waits for its socket (`index` is the index of the first that has); the client accepts no
-- sockets; another connection has the socket's local address.
abbrev pub socket_refusal_in : (index : Option ℕ) → (takes used : Bool) → Option TcpAllocateError
socket_refusal_in None takes used = Some NoAllocation
socket_refusal_in (Some index) takes used = if not takes then Some NoAllocation
    else if used then Some AlreadyExists
    else None

abbrev pub socket_refusal : Protocol → (connection : ℕ) → Socket5Tuple → SocketAddr
    → Option SocketAddr → Option TcpAllocateError
socket_refusal p connection s peer here =
    socket_refusal_in (position (awaits_socket connection peer) p.allocations) (takes_sockets p s)
    (is_used here p.allocations)

-- The client after it answered the request by which the server announced the connection, if a peer opened it.
abbrev pub answering_if : AttemptAnswer → Option ℕ → Protocol → Protocol
answering_if answer None p = p
answering_if answer (Some transaction_id) p = answering answer transaction_id p

-- The transaction ID of that request, for a connection that waits for its socket.
abbrev pub attempt_at : (connection : ℕ) → SocketAddr → Protocol → Option ℕ
attempt_at connection peer p = attempt_of connection peer p.allocations

-- The client after the connection with this ID and peer got no socket: it no longer waits for one. If the
-- peer opened it, the server's request is answered by a failure.
unfoldable pub unsocketed : (connection : ℕ) → SocketAddr → Protocol → Protocol
unsocketed connection peer p = record (answering_if Failed (attempt_at connection peer p) p) {
  allocations = map (release connection peer) p.allocations;
}

-- The client after that connection got a socket: a CONNECTION_BIND with `transaction_id` is queued, to
-- be sent from the socket. If the peer opened the connection, the server's request is answered by a success
-- first.
unfoldable pub after_socket : (here peer : SocketAddr) → (connection transaction_id now : ℕ)
    → Protocol → Protocol
after_socket here peer connection transaction_id now p =
    record (requested_from here (answering_if Accepted (attempt_at connection peer p) (after_number p))
    (ConnectionBind connection) transaction_id now) {
      allocations = map (release connection peer) (change_first (awaits_socket connection peer)
          (binding (to_bind here peer connection (record { number = transaction_id; expiry = time_after now binding_time })))
          p.allocations);
    }

-- In the allocation at `index`, the connection got its socket, and a CONNECTION_BIND with transaction
-- ID `transaction_id` is queued for it.
abbrev pub IsBoundAt : (here : SocketAddr) → (index : ℕ) → (peer : SocketAddr) → (connection transaction_id now : ℕ)
    → Protocol → Protocol → Type 0
IsBoundAt here index peer connection transaction_id now old new = IsLawfulRequest (ConnectionBind connection)
    × IfSome (slice_get old.allocations index) (λ a. new
    ≡ record (requested_from here old (ConnectionBind connection) transaction_id now) {
      allocations = map (release connection peer) (slice_set old.allocations index
          (binding (to_bind here peer connection
          (record { number = transaction_id; expiry = time_after now binding_time })) a));
    })

-- A CONNECTION_BIND was queued, with the next transaction ID.
pub record IsBindingRequested (old : Protocol) (here peer : SocketAddr) (connection now : ℕ) (new : Protocol) : Type 0 where
  pub number : ℕ
  pub is_next : IsNextNumber old number
  pub lawful : IsLawfulRequest (ConnectionBind connection)
  pub attempt : IfSome (attempt_at connection peer old) IsNumber
  pub after : new ≡ after_socket here peer connection number now old

-- The connection got no socket.
pub record IsSocketLacking (old : Protocol) (connection : ℕ) (peer : SocketAddr) (new : Protocol) : Type 0 where
  pub attempt : IfSome (attempt_at connection peer old) IsNumber
  pub after : new ≡ unsocketed connection peer old

-- The outcome of a call that isn't refused. The connection got no socket; or it got one, and a
-- CONNECTION_BIND is queued; or a memory allocation failed, and nothing has changed except that random words
-- were generated. Without a socket, a memory allocation can fail only if the server's request is to be
-- answered.
abbrev pub IsSocketTaken : Option SocketAddr → Protocol → (connection : ℕ) → SocketAddr → (now : ℕ)
    → Result (Unit {0}) TcpAllocateError → Protocol → Type 0
IsSocketTaken None old connection peer now answer new = MatchResult answer
    (λ _. IsSocketLacking old connection peer new)
    (λ error. (error ≡ NoMemory) × (new ≡ old) × (attempt_at connection peer old ≢ None))
IsSocketTaken (Some here) old connection peer now answer new = MatchResult answer
    (λ _. IsBindingRequested old here peer connection now new)
    (λ error. (error ≡ NoMemory) × (new ≡ after_number old))

-- The result of `allocated_tcp_socket`.
pub record IsSocketAnswered (old : Protocol) (connection : ℕ) (s : Socket5Tuple) (peer : SocketAddr)
    (here : Option SocketAddr) (now : ℕ) (answer : Result (Unit {0}) TcpAllocateError) (new : Protocol) : Type 0 where
  pub refused : IfSome (socket_refusal old connection s peer here) (λ error. (answer ≡ Err error) × (new ≡ old))
  pub taken : IfNone (socket_refusal old connection s peer here)
      (IsSocketTaken here old connection peer now answer new)
