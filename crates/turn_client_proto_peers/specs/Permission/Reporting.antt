-- Expiry of permissions (RFC 8656, section 9).
use Rattle.std.specs.Prelude.{ℕ, min, List, map, filter, fold, Option}
use Rattle.std.specs.List.{flat_map}
use Rattle.std.specs.declared.net.ip_addr.IpAddr.{IpAddr}
use Rattle.turn_client_proto_allocation.specs.Permissions.{addresses_of, has_expired, is_over, next_of_permission, not_over, polled_permissions}
use Rattle.turn_client_proto_allocation.specs.declared.allocation.Allocation.{Allocation}
use Rattle.turn_client_proto_allocation.specs.declared.permission.PendingPermission.{PendingPermission}
use Rattle.turn_client_proto_allocation.specs.declared.permission.Permission.{Permission}

-- The addresses of the pending permissions whose request timed out, each once for each request.
abbrev pub addresses_over : Option ℕ → List PendingPermission → List IpAddr
addresses_over ended pending = flat_map addresses_of (filter (is_over ended) pending)

-- The addresses of the permissions that have expired.
abbrev pub addresses_expired : ℕ → List Permission → List IpAddr
addresses_expired now permissions = map (λ p. p.ip) (filter (has_expired now) permissions)

-- The allocation after a poll: with the permissions that have not expired, and the pending permissions whose
-- request has not timed out.
unfoldable pub polled : Option ℕ → ℕ → Allocation → Allocation
polled ended now a = record a {
  permissions = polled_permissions ended now a.permissions;
  pending_permissions = not_over ended a.pending_permissions;
}

-- The times at which a permission of the allocation has to be polled.
abbrev pub nexts : Option ℕ → (ready now : ℕ) → Allocation → List ℕ
nexts ended ready now a = map (next_of_permission ended ready now) a.permissions

abbrev pub all_nexts : Option ℕ → (ready now : ℕ) → List Allocation → List ℕ
all_nexts ended ready now allocations = flat_map (nexts ended ready now) allocations

-- The earliest of `wait` and of the times of the permissions, computed one after another.
abbrev pub earlier_of : Option ℕ → (ready now wait : ℕ) → List Permission → ℕ
earlier_of ended ready now wait permissions =
    fold (λ w p. min w (next_of_permission ended ready now p)) wait permissions
