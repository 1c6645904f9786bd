-- The addresses that a request for permissions names.
use Rattle.std.proofs.Common.{◌≡◌, ℕ, List, [], ◌∷◌, map, Some, ap, ◌∙◌, inl, inr}
use Rattle.std.specs.List.{find}
use Rattle.std.specs.declared.net.ip_addr.IpAddr.{IpAddr}
use Rattle.turn_client_proto_timers.specs.StunTypesBase.declared.transport.TransportType.{TransportType}
use Rattle.turn_client_proto_timers.specs.TurnRuns.Members.{IsIn, NoneTwice}
use Rattle.turn_client_proto_timers.specs.TurnRuns.Messages as run
use Rattle.turn_client_proto_timers.specs.TurnRuns.Steps.{Reported, reported_for}
use Rattle.turn_client_proto_timers.specs.Allocation.Awaited.{asks_for_permission}
use Rattle.turn_client_proto_timers.specs.Allocation.PendingRequests.{addresses_for, addresses_in, addresses_wanted, awaits_reply}
use Rattle.turn_client_proto_timers.specs.Allocation.Permissions.{addresses_of, each_once}
use Rattle.turn_client_proto_timers.specs.Allocation.Same.{is_same_ip}
use Rattle.turn_client_proto_step_laws.specs.Held.{Allocation, PendingPermission}
use Rattle.turn_client_proto_step_laws.proofs.Firsts.{head_first, none_twice}
use Rattle.turn_client_proto_step_laws.proofs.Visible.{itself_ip}

-- The first address is one of them.
pub first_named : (p : PendingPermission) → IsIn p.ip (addresses_of p)
first_named p = head_first is_same_ip p.ip p.others

-- A single address stands alone.
pub alone : (ip other : IpAddr) → IsIn other (each_once (ip ∷ [])) → ip ≡ other
alone ip other (inl is) = is
alone ip other (inr none) = absurd none

-- Those that the first allocation awaiting a response has requested are those of its first pending permission
-- with that transaction ID.
pub addresses_found : (number : ℕ) (all : List Allocation) (a : Allocation) (p : PendingPermission) → find (awaits_reply number) all ≡ Some a
    → find (asks_for_permission number) a.pending_permissions ≡ Some p → addresses_for number all ≡ addresses_of p
addresses_found number all a p found asked = ap (addresses_wanted number) found ∙ ap addresses_in asked

-- What is gained: a permission for the address, by the response with this transaction ID.
abbrev pub permission_reported : TransportType → ℕ → IpAddr → Reported
permission_reported transport number ip = record { notice = run.PermissionCreated transport ip; held = run.Permission transport ip; number = number }

same_named : (transport : TransportType) (number : ℕ) (one other : IpAddr) → reported_for (permission_reported transport number one) ≡ reported_for (permission_reported transport number other) → one ≡ other
same_named transport number one other same =
    let notice : run.PermissionCreated transport one ≡ run.PermissionCreated transport other = ap (λ (p : run.Notice × ℕ). p.0) same in
    Prim.cc notice

-- No address is reported twice.
pub named_once : (transport : TransportType) (number : ℕ) (ips : List IpAddr) → NoneTwice reported_for (map (permission_reported transport number) (each_once ips))
named_once transport number ips = none_twice is_same_ip itself_ip (permission_reported transport number) (same_named transport number) ips
