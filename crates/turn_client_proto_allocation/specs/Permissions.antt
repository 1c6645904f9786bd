-- The permissions of an allocation (RFC 8656, sections 9 and 10).
use Rattle.std.specs.Prelude.{ℕ, ◌*◌, ◌-◌, nat_le, max, Bool, true, false, not, ◌&&◌, List, [], ◌∷◌, ◌++◌, map, filter, Option, if◌then◌else◌}
use Rattle.std.specs.declared.net.ip_addr.IpAddr.{IpAddr}
use Rattle.turn_client_proto_allocation.specs.Awaited.{asks_for_permission, is_among, renews_permission}
use Rattle.turn_client_proto_allocation.specs.Changes.{change_first}
use Rattle.turn_client_proto_allocation.specs.Firsts.{first_of_each}
use Rattle.turn_client_proto_allocation.specs.Refreshing.{renewed_before, second}
use Rattle.turn_client_proto_allocation.specs.Same.{is_same_ip}
use Rattle.turn_client_proto_allocation.specs.declared.permission.PendingPermission.{PendingPermission}
use Rattle.turn_client_proto_allocation.specs.declared.permission.Permission.{Permission}

-- How long a permission is valid unless it is renewed.
abbrev pub permission_lifetime : ℕ
permission_lifetime = 300 * second

-- ---- one that is valid

-- The list is empty.
abbrev pub are_none : List ℕ → Bool
are_none [] = true
are_none (n ∷ rest) = false

-- The time from which a permission is to be renewed.
abbrev pub permission_renewal : Permission → ℕ
permission_renewal p = p.expiry - renewed_before

-- The permission is to be renewed at this time.
abbrev pub wants_renewal : ℕ → Permission → Bool
wants_renewal now p = nat_le now p.expiry && (are_none p.renewals && nat_le (permission_renewal p) now)

abbrev pub has_expired : ℕ → Permission → Bool
has_expired now p = nat_le p.expiry now

-- The next time at which a permission has to be polled: when it expires, or when it is to be renewed, but not
-- before a request can be sent (`ready`).
unfoldable pub next_of_permission : Option ℕ → (ready now : ℕ) → Permission → ℕ
next_of_permission ended ready now p =
    if has_expired now p then now
    else (if is_among ended p.renewals then ready
    else (if are_none p.renewals then max (permission_renewal p) ready else p.expiry))

-- The permission after the transaction `ended` timed out: if it was to renew the permission, the permission
-- may be renewed again.
unfoldable pub polled_permission : Option ℕ → Permission → Permission
polled_permission ended p = if is_among ended p.renewals then record p { renewals = [] } else p

-- The permission after a success response to this request: if the request was to renew it, it now expires at
-- `expiry`.
unfoldable pub renewed_permission : (transaction_id expiry : ℕ) → Permission → Permission
renewed_permission transaction_id expiry p =
    if renews_permission transaction_id p then record p { expiry = expiry; renewals = [] } else p

-- The permission when the request with this transaction ID is to renew it, too.
abbrev pub awaiting : ℕ → Permission → Permission
awaiting transaction_id p = record p { renewals = p.renewals ++ transaction_id ∷ [] }

-- ---- those that are valid

-- The permissions that have not expired.
abbrev pub standing : ℕ → List Permission → List Permission
standing now permissions = filter (λ p. not (has_expired now p)) permissions

-- The permissions after a poll: the expired ones are removed, and renewals that timed out are forgotten.
abbrev pub polled_permissions : Option ℕ → ℕ → List Permission → List Permission
polled_permissions ended now permissions = map (polled_permission ended) (standing now permissions)

-- The permissions that the request with this transaction ID is not to renew.
abbrev pub not_renewed_by : ℕ → List Permission → List Permission
not_renewed_by transaction_id permissions = filter (λ p. not (renews_permission transaction_id p)) permissions

-- The permissions when the request `transaction_id` is to renew the first one that the request `old` is to renew.
abbrev pub renewed_again : (old transaction_id : ℕ) → List Permission → List Permission
renewed_again old transaction_id permissions = change_first (renews_permission old) (awaiting transaction_id) permissions

-- The permissions when the request `transaction_id` is to renew the first one that is to be renewed at `now`.
abbrev pub renewed_first : (now transaction_id : ℕ) → List Permission → List Permission
renewed_first now transaction_id permissions = change_first (wants_renewal now) (awaiting transaction_id) permissions

-- ---- those that were requested

-- Each of the addresses once, in the order in which they come first.
abbrev pub each_once : List IpAddr → List IpAddr
each_once ips = first_of_each is_same_ip ips

-- The addresses that the request for the pending permission names, as the caller gave them.
abbrev pub names_of : PendingPermission → List IpAddr
names_of p = p.ip ∷ p.others

-- The addresses that a request for the pending permission is for, each once.
abbrev pub addresses_of : PendingPermission → List IpAddr
addresses_of p = each_once (names_of p)

-- The transaction that timed out is that of a request for the pending permission.
abbrev pub is_over : Option ℕ → PendingPermission → Bool
is_over ended p = is_among ended p.numbers

-- The pending permission when the request with this transaction ID requests it, too.
abbrev pub with_number : ℕ → PendingPermission → PendingPermission
with_number transaction_id p = record p { numbers = p.numbers ++ transaction_id ∷ [] }

-- The pending permissions of which no request timed out.
abbrev pub not_over : Option ℕ → List PendingPermission → List PendingPermission
not_over ended pending = filter (λ p. not (is_over ended p)) pending

-- The pending permissions that the request with this transaction ID does not request.
abbrev pub not_pending_request : ℕ → List PendingPermission → List PendingPermission
not_pending_request transaction_id pending = filter (λ p. not (asks_for_permission transaction_id p)) pending

-- The pending permissions when the request `transaction_id` requests the first one that the request `old` requests.
abbrev pub requested_again : (old transaction_id : ℕ) → List PendingPermission → List PendingPermission
requested_again old transaction_id pending = change_first (asks_for_permission old) (with_number transaction_id) pending
