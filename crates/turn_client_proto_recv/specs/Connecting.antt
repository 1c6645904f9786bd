-- Requests for connections (RFC 6062, section 4.3).
use Rattle.std.specs.Prelude.{◌≡◌, ℕ, List, find, Option, Some, None, Result, Err, MatchResult, IfSome, IfNone, if◌then◌else◌}
use Rattle.std.specs.declared.net.socket_addr.SocketAddr.{SocketAddr}
use Rattle.stun_types_base.specs.Family.{family_of_socket}
use Rattle.stun_types_base.specs.declared.transport.TransportType.TheVariants.{Tcp}
use Rattle.turn_client_proto_allocation.specs.Changes.{change_first}
use Rattle.turn_client_proto_allocation.specs.declared.allocation.Allocation.{Allocation}
use Rattle.turn_client_proto_api.specs.declared.error.TcpConnectError.{TcpConnectError}
use Rattle.turn_client_proto_api.specs.declared.error.TcpConnectError.TheVariants.{NoAllocation, NoMemory}
use Rattle.turn_client_proto_connection.specs.Asking.{barring, connecting}
use Rattle.turn_client_proto_peers.specs.Permission.Asking.{is_of, is_past, marked}
use Rattle.turn_client_proto_messages.specs.declared.request.TurnRequest.TheVariants.{Connect}
use Rattle.turn_client_proto_core.specs.Asking.{requested}
use Rattle.turn_client_proto_core.specs.Deleting.{is_authenticated}
use Rattle.turn_client_proto_core.specs.Numbering.{IsNextNumber, after_number}
use Rattle.turn_client_proto_core.specs.declared.protocol.Phase.{Phase}
use Rattle.turn_client_proto_core.specs.declared.protocol.Protocol.{Protocol}

-- ---- a caller requests one

-- The allocation in which a connection to a peer is requested: the first over TCP of the peer's family.
abbrev pub allocation_towards : SocketAddr → Protocol → Option Allocation
allocation_towards peer p = find (is_of Tcp (family_of_socket peer)) p.allocations

-- The allocations after `change` was applied to that allocation.
abbrev pub changed_towards : SocketAddr → (Allocation → Allocation) → List Allocation → List Allocation
changed_towards peer change allocations = change_first (is_of Tcp (family_of_socket peer)) change allocations

-- Why a connection is refused, by that allocation. The first reason that applies counts: there is no
-- allocation, or it has expired; the client has ended; the allocation has no permission for the peer, or a
-- connection to it.
abbrev pub connect_refusal_in : Option Allocation → Phase → SocketAddr → (now : ℕ) → Option TcpConnectError
connect_refusal_in None phase peer now = Some NoAllocation
connect_refusal_in (Some a) phase peer now = if is_past now a then Some NoAllocation
    else if is_authenticated phase then barring peer a
    else Some NoAllocation

abbrev pub connect_refusal : Protocol → SocketAddr → (now : ℕ) → Option TcpConnectError
connect_refusal p peer now = connect_refusal_in (allocation_towards peer p) p.phase peer now

-- The client after a refusal. An allocation that was found to have expired is marked as expired.
abbrev pub connect_refused_in : Option Allocation → SocketAddr → ℕ → Protocol → Protocol
connect_refused_in None peer now p = p
connect_refused_in (Some a) peer now p =
    if is_past now a then record p { allocations = changed_towards peer marked p.allocations } else p

-- The client after it queued a CONNECT with `transaction_id`.
unfoldable pub after_connecting : SocketAddr → (transaction_id now : ℕ) → Protocol → Protocol
after_connecting peer transaction_id now p = record (requested (after_number p) (Connect peer) transaction_id now) {
  allocations = changed_towards peer (connecting (record { number = transaction_id; peer = peer })) p.allocations;
}

-- A connection was requested, with the next transaction ID.
pub record IsConnectionRequested (old : Protocol) (peer : SocketAddr) (now : ℕ) (new : Protocol) : Type 0 where
  pub number : ℕ
  pub is_next : IsNextNumber old number
  pub after : new ≡ after_connecting peer number now old

-- The result of `tcp_connect`: refused; or requested; or `NoMemory`, and nothing has changed except that
-- random words were generated.
pub record IsConnectAnswered (old : Protocol) (peer : SocketAddr) (now : ℕ)
    (answer : Result (Unit {0}) TcpConnectError) (new : Protocol) : Type 0 where
  pub refused : IfSome (connect_refusal old peer now) (λ error.
      (answer ≡ Err error) × (new ≡ connect_refused_in (allocation_towards peer old) peer now old))
  pub requested : IfNone (connect_refusal old peer now) (MatchResult answer
      (λ _. IsConnectionRequested old peer now new)
      (λ error. (error ≡ NoMemory) × (new ≡ after_number old)))
