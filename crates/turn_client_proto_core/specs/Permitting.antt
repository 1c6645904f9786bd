-- Requests for permissions, and the responses to them (RFC 8656, section 10).
use Rattle.std.specs.Prelude.{◌≡◌, ℕ, nat_le, length, Bool, ◌&&◌, ◌||◌, List, [], ◌∷◌, ◌++◌, find, map, Option, Some, None, Result, Ok, Err, MatchResult, IfSome, IfNone, if◌then◌else◌}
use Rattle.std.specs.Bool.{MatchBool}
use Rattle.std.specs.List.{list_all, list_any}
use Rattle.std.specs.declared.net.ip_addr.IpAddr.{IpAddr}
use Rattle.stun_types_wire.specs.Attributes.{kind_at}
use Rattle.stun_types_wire.specs.Grammar.{number_at}
pub use Rattle.stun_types_base.specs.Family.{family_of_ip}
use Rattle.stun_types_wire.specs.Types.{class_of}
use Rattle.stun_types_base.specs.declared.transport.TransportType.{TransportType}
use Rattle.turn_client_proto_allocation.specs.Changes.{change_first}
use Rattle.turn_client_proto_allocation.specs.Permissions.{each_once}
use Rattle.turn_client_proto_allocation.specs.declared.allocation.Allocation.{Allocation}
use Rattle.turn_client_proto_api.specs.Families.{is_same_family}
use Rattle.turn_client_proto_api.specs.Limits.{most_peer_ips}
use Rattle.turn_client_proto_api.specs.declared.error.CreatePermissionError.{CreatePermissionError}
use Rattle.turn_client_proto_api.specs.declared.error.CreatePermissionError.TheVariants.{AlreadyExists, NoAllocation, NoMemory}
use Rattle.turn_client_proto_api.specs.declared.error.CreatePermissionsError.{CreatePermissionsError}
use Rattle.turn_client_proto_api.specs.declared.error.CreatePermissionsError.TheVariants.{InvalidAddresses, Refused}
use Rattle.turn_client_proto_api.specs.declared.event.TurnEvent.TheVariants.{PermissionCreated, PermissionCreateFailed}
use Rattle.turn_client_proto_peers.specs.Permission.Asking.{asking, is_of, is_past, knows, marked}
use Rattle.turn_client_proto_allocation.specs.PendingRequests.{addresses_for, pending_request}
use Rattle.turn_client_proto_peers.specs.Permission.Permitted.{all_permitted_each}
use Rattle.turn_client_proto_peers.specs.Permission.Granted.{renewed, rejected}
use Rattle.turn_client_proto_allocation.specs.declared.pending.PendingRequest.{PendingRequest}
use Rattle.turn_client_proto_allocation.specs.declared.pending.PendingRequest.TheVariants.{ChannelRenewal, Lifetime, NewChannel, NewConnection, NewPermission, Renewal}
use Rattle.turn_client_proto_messages.specs.ReportedRequests.{IsLawfulRequest}
use Rattle.turn_client_proto_messages.specs.declared.request.TurnRequest.TheVariants.{CreatePermission}
use Rattle.turn_client_proto_core.specs.Asking.{requested}
use Rattle.turn_client_proto_core.specs.Deleting.{is_authenticated}
use Rattle.turn_client_proto_core.specs.Numbering.{IsNextNumber, after_number}
use Rattle.turn_client_proto_core.specs.Outcomes.{IsHandled, IsIgnored}
use Rattle.turn_client_proto_core.specs.Responding.{is_error_class}
use Rattle.turn_client_proto_core.specs.declared.protocol.Phase.{Phase}
use Rattle.turn_client_proto_core.specs.declared.protocol.Protocol.{Protocol}

-- ---- a caller requests some

-- The allocation in which a permission for an address is requested: the first of this transport and the
-- address's family.
abbrev pub allocation_for : TransportType → IpAddr → Protocol → Option Allocation
allocation_for transport ip p = find (is_of transport (family_of_ip ip)) p.allocations

-- The allocations after `change` was applied to that allocation.
abbrev pub changed_for : TransportType → IpAddr → (Allocation → Allocation) → List Allocation → List Allocation
changed_for transport ip change allocations = change_first (is_of transport (family_of_ip ip)) change allocations

-- The allocation has an active or pending permission for one of the addresses: the first, or one of the others.
abbrev pub knows_any : IpAddr → (others : List IpAddr) → Allocation → Bool
knows_any ip others a = list_any (λ other. knows other a) others || knows ip a

-- Why permissions for the addresses are refused, by that allocation. The first reason that applies counts:
-- there is no allocation, or it has expired; a permission for one of the addresses is active or requested; the
-- client has ended.
abbrev pub refusal_among : Option Allocation → Phase → IpAddr → (others : List IpAddr) → (now : ℕ) → Option CreatePermissionError
refusal_among None phase ip others now = Some NoAllocation
refusal_among (Some a) phase ip others now = if is_past now a then Some NoAllocation
    else (if knows_any ip others a then Some AlreadyExists
    else (if is_authenticated phase then None else Some NoAllocation))

-- Why permissions for the addresses are refused, by the allocation for the first one.
abbrev pub permissions_refusal : Protocol → TransportType → IpAddr → (others : List IpAddr) → (now : ℕ) → Option CreatePermissionError
permissions_refusal p transport ip others now = refusal_among (allocation_for transport ip p) p.phase ip others now

-- The same of one address.
abbrev pub refusal_in : Option Allocation → Phase → IpAddr → ℕ → Option CreatePermissionError
refusal_in found phase ip now = refusal_among found phase ip [] now

abbrev pub permission_refusal : Protocol → TransportType → IpAddr → ℕ → Option CreatePermissionError
permission_refusal p transport ip now = permissions_refusal p transport ip [] now

-- The client after a refusal. An allocation that was found to have expired is marked as expired.
abbrev pub refused_in : Option Allocation → TransportType → IpAddr → ℕ → Protocol → Protocol
refused_in None transport ip now p = p
refused_in (Some a) transport ip now p =
    if is_past now a then record p { allocations = changed_for transport ip marked p.allocations } else p

-- The client after it queued a CREATE_PERMISSION with `transaction_id` for these addresses, each of them once.
-- The first one says in which allocation.
unfoldable pub after_asking : TransportType → IpAddr → (others : List IpAddr) → (transaction_id now : ℕ) → Protocol → Protocol
after_asking transport ip others transaction_id now p =
    record (requested (after_number p) (CreatePermission (each_once (ip ∷ others))) transaction_id now) {
      allocations = changed_for transport ip (asking (record { ip = ip; others = others; numbers = transaction_id ∷ [] })) p.allocations;
    }

-- Permissions for these addresses were requested, with the next transaction ID.
pub record IsPermissionRequested (old : Protocol) (transport : TransportType) (ip : IpAddr) (others : List IpAddr) (now : ℕ)
    (new : Protocol) : Type 0 where
  pub number : ℕ
  pub is_next : IsNextNumber old number
  pub lawful : IsLawfulRequest (CreatePermission (each_once (ip ∷ others)))
  pub after : new ≡ after_asking transport ip others number now old

-- The result of a request for permissions for these addresses: refused; or requested; or `NoMemory`, and nothing
-- has changed except that random words were generated.
pub record IsAnsweredAmong (old : Protocol) (transport : TransportType) (ip : IpAddr) (others : List IpAddr) (now : ℕ)
    (answer : Result (Unit {0}) CreatePermissionError) (new : Protocol) : Type 0 where
  pub refused : IfSome (permissions_refusal old transport ip others now) (λ error.
      (answer ≡ Err error) × (new ≡ refused_in (allocation_for transport ip old) transport ip now old))
  pub requested : IfNone (permissions_refusal old transport ip others now) (MatchResult answer
      (λ _. IsPermissionRequested old transport ip others now new)
      (λ error. (error ≡ NoMemory) × (new ≡ after_number old)))

-- The result of `create_permission`: that of a request for one address.
abbrev pub IsPermissionAnswered : Protocol → TransportType → IpAddr → ℕ → Result (Unit {0}) CreatePermissionError → Protocol → Type 0
IsPermissionAnswered old transport ip now answer new = IsAnsweredAmong old transport ip [] now answer new

-- ---- a caller requests several

-- The addresses can stand in one request: there are at most 32, and all are of the first one's family.
abbrev pub may_name : IpAddr → (others : List IpAddr) → Bool
may_name ip others = nat_le (length (ip ∷ others)) most_peer_ips
    && list_all (λ other. is_same_family (family_of_ip other) (family_of_ip ip)) others

-- The result of a request, in the words of `create_permissions`.
abbrev pub as_several : Result (Unit {0}) CreatePermissionError → Result (Unit {0}) CreatePermissionsError
as_several (Ok done) = Ok done
as_several (Err error) = Err (Refused error)

-- The result of `create_permissions` for addresses that can stand in one request.
pub record AreAnsweredAmong (old : Protocol) (transport : TransportType) (ip : IpAddr) (others : List IpAddr) (now : ℕ)
    (answer : Result (Unit {0}) CreatePermissionsError) (new : Protocol) : Type 0 where
  pub among : Result (Unit {0}) CreatePermissionError
  pub answered : IsAnsweredAmong old transport ip others now among new
  pub is : answer ≡ as_several among

-- `create_permissions` is refused by the addresses alone, and nothing changes.
abbrev pub AreInvalid : Protocol → Result (Unit {0}) CreatePermissionsError → Protocol → Type 0
AreInvalid old answer new = (answer ≡ Err InvalidAddresses) × (new ≡ old)

-- The result of `create_permissions`. Without an address, or with addresses that can't stand in one request, it
-- is refused. Otherwise it is that of a request for all of them.
abbrev pub ArePermissionsAnswered : Protocol → TransportType → List IpAddr → (now : ℕ) → Result (Unit {0}) CreatePermissionsError → Protocol → Type 0
ArePermissionsAnswered old transport [] now answer new = AreInvalid old answer new
ArePermissionsAnswered old transport (ip ∷ others) now answer new = MatchBool (may_name ip others)
    (AreAnsweredAmong old transport ip others now answer new)
    (AreInvalid old answer new)

-- ---- a response

-- The client after the permissions for these addresses that the request `transaction_id` asked for were granted.
-- An event is queued for each.
unfoldable pub granted : TransportType → List IpAddr → (transaction_id now : ℕ) → Protocol → Protocol
granted transport ips transaction_id now p = record p {
  allocations = all_permitted_each ips transaction_id now p.allocations;
  events = p.events ++ map (PermissionCreated transport) ips;
}

-- The client after the permissions that the request `transaction_id` was to renew were renewed.
unfoldable pub renews : (transaction_id now : ℕ) → Protocol → Protocol
renews transaction_id now p = record p { allocations = map (renewed transaction_id now) p.allocations }

-- The client after the permissions that the request `transaction_id` asked for, or was to renew, were removed.
-- An event is queued for each of these addresses.
unfoldable pub refused : TransportType → List IpAddr → ℕ → Protocol → Protocol
refused transport ips transaction_id p = record p {
  allocations = map (rejected transaction_id) p.allocations;
  events = p.events ++ map (PermissionCreateFailed transport) ips;
}

-- The outcome of the success response to the request `transaction_id`, by what it asked for.
abbrev pub IsGrantedFor : Option PendingRequest → Protocol → (transaction_id now : ℕ) → Bool → Protocol → Type 0
IsGrantedFor (Some (NewPermission transport ip)) p transaction_id now handled new =
    IsHandled (granted transport (addresses_for transaction_id p.allocations) transaction_id now p) handled new
IsGrantedFor (Some (Renewal transport ip)) p transaction_id now handled new = IsHandled (renews transaction_id now p) handled new
IsGrantedFor (Some (Lifetime lifetime)) p transaction_id now handled new = IsIgnored p handled new
IsGrantedFor (Some (NewConnection to)) p transaction_id now handled new = IsIgnored p handled new
IsGrantedFor (Some (NewChannel transport channel peer)) p transaction_id now handled new = IsIgnored p handled new
IsGrantedFor (Some (ChannelRenewal transport channel peer)) p transaction_id now handled new = IsIgnored p handled new
IsGrantedFor None p transaction_id now handled new = IsIgnored p handled new

-- The outcome of the error response to the request `transaction_id`, by what it asked for. Of the permissions
-- that it was to renew, the first is reported.
abbrev pub IsRefusedFor : Option PendingRequest → Protocol → ℕ → Bool → Protocol → Type 0
IsRefusedFor (Some (NewPermission transport ip)) p transaction_id handled new =
    IsHandled (refused transport (addresses_for transaction_id p.allocations) transaction_id p) handled new
IsRefusedFor (Some (Renewal transport ip)) p transaction_id handled new =
    IsHandled (refused transport (ip ∷ []) transaction_id p) handled new
IsRefusedFor (Some (Lifetime lifetime)) p transaction_id handled new = IsIgnored p handled new
IsRefusedFor (Some (NewConnection to)) p transaction_id handled new = IsIgnored p handled new
IsRefusedFor (Some (NewChannel transport channel peer)) p transaction_id handled new = IsIgnored p handled new
IsRefusedFor (Some (ChannelRenewal transport channel peer)) p transaction_id handled new = IsIgnored p handled new
IsRefusedFor None p transaction_id handled new = IsIgnored p handled new

-- The outcome of a response to a CREATE_PERMISSION, by its class.
abbrev pub IsPermissionResponded : Protocol → List ℕ → ℕ → Bool → Protocol → Type 0
IsPermissionResponded p bytes now handled new = MatchBool (is_error_class (class_of (kind_at bytes)))
    (IsRefusedFor (pending_request (number_at bytes) p.allocations) p (number_at bytes) handled new)
    (IsGrantedFor (pending_request (number_at bytes) p.allocations) p (number_at bytes) now handled new)
