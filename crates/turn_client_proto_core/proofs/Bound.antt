-- A channel that is granted or rejected, with its permission.
use Rattle.std.proofs.Common.{◌≡◌, ℕ, true, List, [], ◌∷◌, ◌++◌, Option, Some, None, get_or, map, position, refl, sym, ap, ◌∙◌, append_assoc}
use Rattle.std.proofs.lemmas.List.{append-nil}
use Rattle.std.specs.Option.{option_and_then}
use Rattle.std.specs.declared.net.ip_addr.IpAddr.{IpAddr}
use Rattle.std.specs.declared.net.socket_addr.SocketAddr.{SocketAddr}
use Rattle.stun_types_base.specs.declared.transport.TransportType.{TransportType}
use Rattle.turn_client_proto_allocation.proofs.Changes.{found_at}
use Rattle.turn_client_proto_allocation.specs.declared.allocation.Allocation.{Allocation}
use Rattle.turn_client_proto_api.specs.declared.event.TurnEvent.{TurnEvent}
use Rattle.turn_client_proto_api.specs.declared.event.TurnEvent.TheVariants.{ChannelCreated, ChannelCreateFailed, PermissionCreated, PermissionCreateFailed}
use Rattle.turn_client_proto_peers.proofs.Granting.{permitted_awaits}
use Rattle.turn_client_proto_allocation.specs.PendingRequests.{pending_request, awaits_reply}
use Rattle.turn_client_proto_peers.specs.Channel.Granted.{all_bound, expire_due, renewed, rejected}
use Rattle.turn_client_proto_peers.specs.Permission.Permitted.{all_permitted, permission_requested}
use Rattle.turn_client_proto_allocation.specs.declared.pending.PendingRequest.{PendingRequest}
use Rattle.turn_client_proto_allocation.specs.declared.pending.PendingRequest.TheVariants.{ChannelRenewal, NewChannel}
use Rattle.turn_client_proto_core.specs.Binding.{IsBoundFor, IsUnboundFor, bound, expires_due, permission_with, permitted_with, renews_channels, reported_with, rejected_with, unbound}
use Rattle.turn_client_proto_core.specs.declared.protocol.Protocol.{Protocol}

-- ---- the permission beside a channel

-- The permission requested with a channel is that of the allocation at `index`.
pub beside_is : (all read : List Allocation) (number index : ℕ) (a : Allocation) (beside : Option IpAddr) → position (awaits_reply number) all ≡ Some index → read ≡ all → a ≡ get_or read index a → beside ≡ permission_requested number a
    → permission_with number all ≡ beside
beside_is all read number index a beside here whole at is =
    ap (option_and_then (permission_requested number)) (found_at (awaits_reply number) all index a here (at ∙ ap (λ (l : List Allocation). get_or l index a) whole)) ∙ sym is

-- The client after the permission was granted, if one was requested.
abbrev pub with_permission : TransportType → Option IpAddr → (number now : ℕ) → Protocol → Protocol
with_permission transport ip number now p = record p {
  allocations = permitted_with ip number now p.allocations;
  events = p.events ++ reported_with (PermissionCreated transport) ip;
}

module _ (old : Protocol) (transport : TransportType) (number now : ℕ) where
  pub none_permitted : (ip : Option IpAddr) → ip ≡ None → old ≡ with_permission transport ip number now old
  none_permitted ip none = rw none (ap (λ (e : List TurnEvent). record old { events = e }) (sym (append-nil old.events)))

  pub one_permitted : (ip : Option IpAddr) (a : IpAddr) (left : List Allocation) (events : List TurnEvent) → ip ≡ Some a → left ≡ all_permitted a number now old.allocations → events ≡ old.events ++ PermissionCreated transport a ∷ []
      → record old { allocations = left; events = events } ≡ with_permission transport ip number now old
  one_permitted ip a left events some is reported = rw (some, is, reported) refl

-- ---- granted

-- After that, the channel is still requested, in the allocation at the same index.
pub still_awaits : (all : List Allocation) (ip : Option IpAddr) (number now index : ℕ) (transport : TransportType) (channel : ℕ) (peer : SocketAddr) → pending_request number all ≡ Some (NewChannel transport channel peer) → position (awaits_reply number) all ≡ Some index
    → position (awaits_reply number) (permitted_with ip number now all) ≡ Some index
still_awaits all None number now index transport channel peer requested here = here
still_awaits all (Some ip) number now index transport channel peer requested here = permitted_awaits all ip number now transport channel peer requested ∙ here

module _ (old : Protocol) (requested : Option PendingRequest) (transport : TransportType) (channel : ℕ) (peer : SocketAddr) (number now : ℕ) where
  pub granted : (mid : Protocol) (left : List Allocation) (events : List TurnEvent) → requested ≡ Some (NewChannel transport channel peer) → mid ≡ with_permission transport (permission_with number old.allocations) number now old
      → left ≡ all_bound channel peer number now mid.allocations → events ≡ mid.events ++ ChannelCreated transport peer ∷ [] → IsBoundFor requested old number now true (record mid { allocations = left; events = events })
  unfolding bound
  granted mid left events is permitted bound reported = rw (is, bound, reported, permitted) (refl, refl)

  pub renews : (left : List Allocation) → requested ≡ Some (ChannelRenewal transport channel peer) → left ≡ map (renewed number now) old.allocations → IsBoundFor requested old number now true (record old { allocations = left })
  unfolding renews_channels
  renews left is renewed = rw (is, renewed) (refl, refl)

  -- ---- refused

  pub expires : (left : List Allocation) (events : List TurnEvent) → requested ≡ Some (ChannelRenewal transport channel peer) → left ≡ map (expire_due number) old.allocations → events ≡ old.events ++ ChannelCreateFailed transport peer ∷ []
      → IsUnboundFor requested old number true (record old { allocations = left; events = events })
  unfolding expires_due
  expires left events is expired reported = rw (is, expired, reported) (refl, refl)

pub unbound_is : (old new : Protocol) (transport : TransportType) (peer : SocketAddr) (number : ℕ) (ip beside : Option IpAddr) (left : List Allocation) (events : List TurnEvent) → ip ≡ beside → left ≡ map (rejected number) old.allocations
    → events ≡ old.events ++ ChannelCreateFailed transport peer ∷ [] → new ≡ record old { allocations = rejected_with beside number left; events = events ++ reported_with (PermissionCreateFailed transport) beside }
    → new ≡ unbound transport peer ip number old
unfolding unbound
unbound_is old new transport peer number ip beside left events same is reported after =
    after ∙ rw (same, is, reported) (ap (λ (e : List TurnEvent). record old { allocations = rejected_with beside number (map (rejected number) old.allocations); events = e })
    (append_assoc old.events (ChannelCreateFailed transport peer ∷ []) (reported_with (PermissionCreateFailed transport) beside)))
