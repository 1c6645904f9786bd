-- The connections that the getters list (RFC 6062, section 4).
use Rattle.std.specs.Prelude.{ℕ, Bool, List, [], map, is_none, if◌then◌else◌}
use Rattle.std.specs.List.{flat_map}
use Rattle.std.specs.declared.net.socket_addr.SocketAddr.{SocketAddr}
use Rattle.turn_client_proto_allocation.specs.declared.allocation.Allocation.{Allocation}
use Rattle.turn_client_proto_allocation.specs.declared.connection.Connection.{Connection}

-- The data connections of an allocation that is not marked as expired.
abbrev pub connections_of : Allocation → List Connection
connections_of a = if a.is_expired then [] else a.connections

-- What the getters list of a connection: its own address, its peer, its connection ID, and whether it is
-- bound.
abbrev pub row_of : Connection → SocketAddr × SocketAddr × ℕ × Bool
row_of c = (c.here, c.peer, c.connection, is_none c.awaited)

abbrev pub rows_of : List Connection → List (SocketAddr × SocketAddr × ℕ × Bool)
rows_of connections = map row_of connections

-- What the getters list of the connections of all allocations, in order.
abbrev pub connections_listed : List Allocation → List (SocketAddr × SocketAddr × ℕ × Bool)
connections_listed allocations = flat_map (λ a. rows_of (connections_of a)) allocations
