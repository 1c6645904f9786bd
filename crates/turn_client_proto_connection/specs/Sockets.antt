-- Opening and closing the sockets of connections to peers (RFC 6062, sections 4.3 and 4.6).
use Rattle.std.specs.Prelude.{ℕ, ◌==◌, Bool, not, ◌&&◌, List, [], ◌∷◌, ◌++◌, filter, Some}
use Rattle.std.specs.List.{list_any}
use Rattle.std.specs.declared.net.socket_addr.SocketAddr.{SocketAddr}
use Rattle.turn_client_proto_allocation.specs.Changes.{without_first}
use Rattle.turn_types_frame.specs.Streams.{alive}
use Rattle.turn_client_proto_allocation.specs.declared.allocation.Allocation.{Allocation}
use Rattle.turn_client_proto_allocation.specs.declared.connection.Binding.{Binding}
use Rattle.turn_client_proto_allocation.specs.declared.connection.Connection.{Connection}
use Rattle.turn_client_proto_allocation.specs.declared.connection.Waiting.{Waiting}
use Rattle.turn_client_proto_allocation.specs.Same.{is_same_address}

-- ---- a connection that waits for its socket

-- The waiting connection has this connection ID and peer, whether its socket was requested from the caller or
-- not.
abbrev pub is_socket_for : (connection : ℕ) → SocketAddr → Waiting → Bool
is_socket_for connection peer w = (w.connection == connection) && is_same_address w.peer peer

abbrev pub awaits_socket : (connection : ℕ) → SocketAddr → Allocation → Bool
awaits_socket connection peer a = list_any (is_socket_for connection peer) a.waiting

-- The waiting connections without the first one with this connection ID and peer, and the allocation without
-- it.
abbrev pub not_for : (connection : ℕ) → SocketAddr → List Waiting → List Waiting
not_for connection peer waiting = without_first (is_socket_for connection peer) waiting

unfoldable pub release : (connection : ℕ) → SocketAddr → Allocation → Allocation
release connection peer a = record a { waiting = not_for connection peer a.waiting }

-- ---- a connection that has its socket

-- The connection has this own address.
abbrev pub is_from : SocketAddr → Connection → Bool
is_from here c = is_same_address c.here here

abbrev pub has_from : SocketAddr → Allocation → Bool
has_from here a = list_any (is_from here) a.connections

abbrev pub is_any_from : SocketAddr → List Allocation → Bool
is_any_from here allocations = list_any (has_from here) allocations

-- A connection that the outstanding CONNECTION_BIND is to bind. No bytes were received over its socket yet.
abbrev pub to_bind : (here peer : SocketAddr) → (connection : ℕ) → Binding → Connection
to_bind here peer connection awaited = record {
  here = here;
  peer = peer;
  connection = connection;
  awaited = Some awaited;
  stream = alive [];
}

-- The allocation with one more data connection.
abbrev pub binding : Connection → Allocation → Allocation
binding c a = record a { connections = a.connections ++ c ∷ [] }

-- The allocation without the data connections with this own address.
unfoldable pub closed : SocketAddr → Allocation → Allocation
closed here a = record a { connections = filter (λ c. not (is_from here c)) a.connections }
