-- Connections that the client requests (RFC 6062, section 4.3).
use Rattle.std.specs.Prelude.{Bool, not, ◌||◌, [], ◌∷◌, ◌++◌, Option, Some, None, if◌then◌else◌}
use Rattle.std.specs.List.{list_any}
use Rattle.std.specs.Net.Socket.{socket_ip}
use Rattle.std.specs.declared.net.socket_addr.SocketAddr.{SocketAddr}
use Rattle.turn_client_proto_allocation.specs.declared.allocation.Allocation.{Allocation}
use Rattle.turn_client_proto_allocation.specs.declared.connection.Connecting.{Connecting}
use Rattle.turn_client_proto_allocation.specs.declared.connection.Connection.{Connection}
use Rattle.turn_client_proto_allocation.specs.declared.connection.Waiting.{Waiting}
use Rattle.turn_client_proto_api.specs.declared.error.TcpConnectError.{TcpConnectError}
use Rattle.turn_client_proto_api.specs.declared.error.TcpConnectError.TheVariants.{AlreadyExists, NoPermission}
use Rattle.turn_client_proto_allocation.specs.Permits.{permits}
use Rattle.turn_client_proto_allocation.specs.Same.{is_same_address}

-- A data connection to the peer, a connection to it that waits for its socket, and an outstanding CONNECT for
-- it.
abbrev pub is_joined_to : SocketAddr → Connection → Bool
is_joined_to peer c = is_same_address c.peer peer

abbrev pub is_waiting_for : SocketAddr → Waiting → Bool
is_waiting_for peer w = is_same_address w.peer peer

abbrev pub is_connecting_to : SocketAddr → Connecting → Bool
is_connecting_to peer c = is_same_address c.peer peer

-- The allocation has one of these.
unfoldable pub has_way_to : SocketAddr → Allocation → Bool
has_way_to peer a = list_any (is_joined_to peer) a.connections
    || (list_any (is_waiting_for peer) a.waiting || list_any (is_connecting_to peer) a.connecting)

-- Why no connection to the peer can be requested in the allocation: it has no active permission for the
-- peer's address, or it has a connection to the peer already, in any of the three states.
unfoldable pub barring : SocketAddr → Allocation → Option TcpConnectError
barring peer a = if not (permits (socket_ip peer) a) then Some NoPermission
    else if has_way_to peer a then Some AlreadyExists
    else None

-- The allocation after a connection was requested in it.
abbrev pub connecting : Connecting → Allocation → Allocation
connecting c a = record a { connecting = a.connecting ++ c ∷ [] }
