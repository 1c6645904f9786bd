-- What a client's getters return.
use Rattle.std.specs.Prelude.{ℕ, Bool, List}
use Rattle.std.specs.List.{list_any}
use Rattle.std.specs.declared.net.ip_addr.IpAddr.{IpAddr}
use Rattle.std.specs.declared.net.socket_addr.SocketAddr.{SocketAddr}
use Rattle.stun_types_base.specs.declared.transport.TransportType.{TransportType}
use Rattle.turn_client_proto_core.specs.declared.protocol.Protocol.{Protocol}
use Rattle.turn_client_proto_allocation.specs.Listed.{relayed_listed}
use Rattle.turn_client_proto_peers.specs.Channel.Visible.{channels_listed}
use Rattle.turn_client_proto_connection.specs.Visible.{connections_listed}
use Rattle.turn_client_proto_peers.specs.Permission.Asking.{permits_over}
use Rattle.turn_client_proto_peers.specs.Permission.Visible.{addresses_of, permissions_at}

-- The relayed addresses that a client lists, with their transports.
abbrev pub relayed_of : Protocol → List (TransportType × SocketAddr)
relayed_of p = relayed_listed p.allocations

-- A client lists a permission for this IP address, over this transport.
abbrev pub has_permission : TransportType → IpAddr → Protocol → Bool
has_permission transport ip p = list_any (permits_over transport ip) p.allocations

-- The IP addresses of the permissions that a client lists for the allocation of this transport and relayed
-- address.
abbrev pub permissions_of : TransportType → SocketAddr → Protocol → List IpAddr
permissions_of transport relayed p = addresses_of (permissions_at transport relayed p.allocations)

-- The channels that a client lists, each with its number and its peer.
abbrev pub channels_of : Protocol → List (ℕ × SocketAddr)
channels_of p = channels_listed p.allocations

-- The connections that a client lists, each with its own address, its peer, its connection ID and whether it
-- is bound.
abbrev pub connections_of : Protocol → List (SocketAddr × SocketAddr × ℕ × Bool)
connections_of p = connections_listed p.allocations
