-- The permissions that the getters list.
use Rattle.std.specs.Prelude.{Bool, not, ◌&&◌, List, [], map, find, Option, Some, None}
use Rattle.std.specs.declared.net.ip_addr.IpAddr.{IpAddr}
use Rattle.std.specs.declared.net.socket_addr.SocketAddr.{SocketAddr}
use Rattle.stun_types_base.specs.declared.transport.TransportType.{TransportType}
use Rattle.turn_client_proto_allocation.specs.declared.allocation.Allocation.{Allocation}
use Rattle.turn_client_proto_allocation.specs.declared.permission.Permission.{Permission}
use Rattle.turn_client_proto_allocation.specs.Same.{is_same_address, is_same_transport}

-- The allocation has this transport and relayed address and is not marked as expired.
abbrev pub is_at : TransportType → SocketAddr → Allocation → Bool
is_at transport relayed a =
    not a.is_expired && (is_same_transport a.transport transport && is_same_address a.address relayed)

-- The active permissions of an allocation, if one was found.
abbrev pub permissions_in : Option Allocation → List Permission
permissions_in None = []
permissions_in (Some a) = a.permissions

-- The active permissions of the first allocation with this transport and relayed address that is not marked
-- as expired.
abbrev pub permissions_at : TransportType → SocketAddr → List Allocation → List Permission
permissions_at transport relayed allocations = permissions_in (find (is_at transport relayed) allocations)

-- Their addresses.
abbrev pub addresses_of : List Permission → List IpAddr
addresses_of permissions = map (λ p. p.ip) permissions
