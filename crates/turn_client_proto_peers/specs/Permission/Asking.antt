-- Permissions that the client requests (RFC 8656, section 10.1).
use Rattle.turn_client_proto_allocation.specs.Permits.{permits}
use Rattle.std.specs.Prelude.{ℕ, nat_le, Bool, true, not, ◌&&◌, ◌||◌, [], ◌∷◌, ◌++◌}
use Rattle.std.specs.List.{list_any}
use Rattle.std.specs.declared.net.ip_addr.IpAddr.{IpAddr}
use Rattle.stun_types_base.specs.Family.{family_of_socket}
use Rattle.stun_types_base.specs.declared.family.AddressFamily.{AddressFamily}
use Rattle.stun_types_base.specs.declared.transport.TransportType.{TransportType}
use Rattle.turn_client_proto_allocation.specs.declared.allocation.Allocation.{Allocation}
use Rattle.turn_client_proto_allocation.specs.declared.permission.PendingPermission.{PendingPermission}
use Rattle.turn_client_proto_allocation.specs.declared.permission.Permission.{Permission}
use Rattle.turn_client_proto_api.specs.Families.{is_same_family}
use Rattle.turn_client_proto_allocation.specs.Same.{is_same_ip, is_same_transport}

-- ---- which allocation

-- The allocation is of this transport, and its relayed address of this family.
abbrev pub is_of : TransportType → AddressFamily → Allocation → Bool
is_of transport family a = is_same_transport a.transport transport && is_same_family (family_of_socket a.address) family

-- The allocation has expired.
abbrev pub is_past : ℕ → Allocation → Bool
is_past now a = nat_le a.expiry now

-- The allocation, marked as expired.
abbrev pub marked : Allocation → Allocation
marked a = record a { is_expired = true }

-- ---- what it knows

-- The pending permission is for the address, among others.
abbrev pub is_pending_for : IpAddr → PendingPermission → Bool
is_pending_for ip p = list_any (λ other. is_same_ip other ip) p.others || is_same_ip p.ip ip

-- The allocation has a pending permission for the address.
abbrev pub asks_for : IpAddr → Allocation → Bool
asks_for ip a = list_any (is_pending_for ip) a.pending_permissions

-- The allocation has an active or pending permission for the address.
abbrev pub knows : IpAddr → Allocation → Bool
knows ip a = permits ip a || asks_for ip a

-- The allocation is of this transport, is not marked as expired, and has an active permission for the
-- address.
abbrev pub permits_over : TransportType → IpAddr → Allocation → Bool
permits_over transport ip a = not a.is_expired && (is_same_transport a.transport transport && permits ip a)

-- ---- a request

-- The allocation after a permission was requested in it.
abbrev pub asking : PendingPermission → Allocation → Allocation
asking pending a = record a { pending_permissions = a.pending_permissions ++ pending ∷ [] }
