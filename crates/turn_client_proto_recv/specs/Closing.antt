-- A socket that was closed (RFC 6062, section 4.6).
use Rattle.std.specs.Prelude.{Bool, ◌&&◌, ◌∷◌, map, if◌then◌else◌}
use Rattle.std.specs.declared.net.socket_addr.SocketAddr.{SocketAddr}
use Rattle.stun_types_base.specs.declared.transport.TransportType.TheVariants.{Tcp}
use Rattle.turn_client_proto_connection.specs.Sockets.{closed, is_any_from}
use Rattle.turn_client_proto_core.specs.declared.protocol.Protocol.{Protocol}
use Rattle.turn_client_proto_allocation.specs.Same.{is_same_address, is_same_transport}

-- A socket of a client over TCP, between a local address and the server, is that of a data connection.
abbrev pub is_joined : (here server : SocketAddr) → Protocol → Bool
is_joined here server p = is_same_transport p.agent.transport Tcp
    && (is_same_address server p.server && is_any_from here p.allocations)

-- The client without that connection. Its socket is the next one that the caller is asked to close.
unfoldable pub without : SocketAddr → Protocol → Protocol
without here p = record p { allocations = map (closed here) p.allocations; closing = here ∷ p.closing }

-- The client after a socket was closed: without the data connection of the socket, if there is one.
abbrev pub after_close : (here server : SocketAddr) → Protocol → Protocol
after_close here server p = if is_joined here server p then without here p else p
