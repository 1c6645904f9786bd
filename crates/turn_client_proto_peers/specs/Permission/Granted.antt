-- The effect of a response to a CREATE_PERMISSION on the permissions (RFC 8656, section 10.3).
use Rattle.std.specs.Prelude.{ℕ, List, [], ◌∷◌, ◌++◌, map}
use Rattle.std.specs.declared.net.ip_addr.IpAddr.{IpAddr}
use Rattle.stun_types_base.specs.Times.{time_after}
use Rattle.turn_client_proto_allocation.specs.Permissions.{not_pending_request, not_renewed_by, permission_lifetime, renewed_permission}
use Rattle.turn_client_proto_allocation.specs.declared.allocation.Allocation.{Allocation}
use Rattle.turn_client_proto_allocation.specs.declared.permission.Permission.{Permission}

-- The expiry of a permission that is granted at `now`.
abbrev pub permission_end : ℕ → ℕ
permission_end now = time_after now permission_lifetime

-- A permission that was granted at `now`.
abbrev pub granted_for : IpAddr → ℕ → Permission
granted_for ip now = record { ip = ip; expiry = permission_end now; renewals = [] }

-- The permissions for these addresses that were granted at `now`.
abbrev pub granted_each : List IpAddr → ℕ → List Permission
granted_each ips now = map (λ ip. granted_for ip now) ips

-- The allocation after the request `transaction_id` for permissions for the addresses was granted at `now`.
abbrev pub permitted_all : List IpAddr → (transaction_id now : ℕ) → Allocation → Allocation
permitted_all ips transaction_id now a = record a {
  permissions = a.permissions ++ granted_each ips now;
  pending_permissions = not_pending_request transaction_id a.pending_permissions;
}

-- The same of one address.
abbrev pub permitted : IpAddr → (transaction_id now : ℕ) → Allocation → Allocation
permitted ip transaction_id now a = permitted_all (ip ∷ []) transaction_id now a

-- The allocation after a success response to this request: the permissions that it was to renew are extended.
unfoldable pub renewed : (transaction_id now : ℕ) → Allocation → Allocation
renewed transaction_id now a = record a { permissions = map (renewed_permission transaction_id (permission_end now)) a.permissions }

-- The allocation after an error response to this request: the permissions that it requested or was to renew
-- are removed.
unfoldable pub rejected : ℕ → Allocation → Allocation
rejected transaction_id a = record a {
  permissions = not_renewed_by transaction_id a.permissions;
  pending_permissions = not_pending_request transaction_id a.pending_permissions;
}
