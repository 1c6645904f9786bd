-- Which addresses an allocation permits (RFC 8656, section 9).
use Rattle.std.specs.Prelude.{Bool}
use Rattle.std.specs.List.{list_any}
use Rattle.std.specs.declared.net.ip_addr.IpAddr.{IpAddr}
use Rattle.turn_client_proto_allocation.specs.declared.allocation.Allocation.{Allocation}
use Rattle.turn_client_proto_allocation.specs.declared.permission.Permission.{Permission}
use Rattle.turn_client_proto_allocation.specs.Same.{is_same_ip}

abbrev pub is_for : IpAddr → Permission → Bool
is_for ip p = is_same_ip p.ip ip

-- The allocation has an active permission for the address.
abbrev pub permits : IpAddr → Allocation → Bool
permits ip a = list_any (is_for ip) a.permissions
