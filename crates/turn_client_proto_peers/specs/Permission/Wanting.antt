-- Which permissions are to be renewed (RFC 8656, section 10.1).
use Rattle.std.specs.Prelude.{ℕ, nat_le, Bool, not, ◌&&◌, find, Option, None, if◌then◌else◌}
use Rattle.std.specs.Option.{option_map}
use Rattle.std.specs.declared.net.ip_addr.IpAddr.{IpAddr}
use Rattle.turn_client_proto_allocation.specs.Permissions.{renewed_first, wants_renewal}
use Rattle.turn_client_proto_allocation.specs.declared.allocation.Allocation.{Allocation}

-- The allocation is valid at `now`: it is not marked as expired, and `now` is not after its expiry.
abbrev pub occurs : ℕ → Allocation → Bool
occurs now a = not a.is_expired && nat_le now a.expiry

-- The address of the first permission that is to be renewed at this time, if the allocation is valid.
unfoldable pub renewal_wanted : ℕ → Allocation → Option IpAddr
renewal_wanted now a = if occurs now a then option_map (λ p. p.ip) (find (wants_renewal now) a.permissions) else None

-- The allocation when the request `transaction_id` is to renew its first permission that is to be renewed.
abbrev pub renewing : (now transaction_id : ℕ) → Allocation → Allocation
renewing now transaction_id a = record a { permissions = renewed_first now transaction_id a.permissions }
