-- The addresses that a CREATE_PERMISSION names (RFC 8656, section 10.1).
use Rattle.std.specs.Prelude.{◌≤◌, List, length}
use Rattle.std.specs.declared.net.ip_addr.IpAddr.{IpAddr}
use Rattle.turn_client_proto_api.specs.Limits.{most_peer_ips}

-- One request may name so many addresses: at least one, and at most `most_peer_ips`.
abbrev pub ArePeerIps : List IpAddr → Type 0
ArePeerIps ips = (1 ≤ length ips) × (length ips ≤ most_peer_ips)
