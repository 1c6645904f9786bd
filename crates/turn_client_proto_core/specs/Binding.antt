-- Requests for channels, and the responses to them (RFC 8656, section 12).
use Rattle.std.specs.Prelude.{◌≡◌, ℕ, Bool, List, [], ◌∷◌, ◌++◌, find, map, Option, Some, None, Result, Err, MatchOption, MatchResult, IfSome, IfNone, if◌then◌else◌}
use Rattle.std.specs.Bool.{MatchBool}
use Rattle.std.specs.Net.Socket.{socket_ip}
use Rattle.std.specs.Option.{option_and_then, option_or}
use Rattle.std.specs.declared.net.ip_addr.IpAddr.{IpAddr}
use Rattle.std.specs.declared.net.socket_addr.SocketAddr.{SocketAddr}
use Rattle.stun_types_wire.specs.Attributes.{kind_at}
use Rattle.stun_types_base.specs.Family.{family_of_socket}
use Rattle.stun_types_wire.specs.Grammar.{number_at}
use Rattle.stun_types_wire.specs.Types.{class_of}
use Rattle.stun_types_base.specs.declared.transport.TransportType.{TransportType}
use Rattle.turn_client_proto_allocation.specs.Changes.{change_first}
use Rattle.turn_client_proto_allocation.specs.declared.allocation.Allocation.{Allocation}
use Rattle.turn_client_proto_api.specs.declared.error.BindChannelError.{BindChannelError}
use Rattle.turn_client_proto_api.specs.declared.error.BindChannelError.TheVariants.{NoAllocation, NoChannel, NoMemory}
use Rattle.turn_client_proto_api.specs.declared.event.TurnEvent.{TurnEvent}
use Rattle.turn_client_proto_api.specs.declared.event.TurnEvent.TheVariants.{ChannelCreated, ChannelCreateFailed, PermissionCreated, PermissionCreateFailed}
use Rattle.turn_client_proto_peers.specs.Permission.Asking.{is_of, is_past, knows, marked}
use Rattle.turn_client_proto_peers.specs.Permission.Asking as permissions
use Rattle.turn_client_proto_peers.specs.Permission.Granted as permitted
use Rattle.turn_client_proto_allocation.specs.PendingRequests.{pending_request, awaits_reply}
use Rattle.turn_client_proto_peers.specs.Channel.Binding.{barring}
use Rattle.turn_client_proto_peers.specs.Channel.Binding as channels
use Rattle.turn_client_proto_peers.specs.Channel.Granted.{all_bound, expire_due, renewed, rejected}
use Rattle.turn_client_proto_peers.specs.Permission.Permitted.{all_permitted, permission_requested}
use Rattle.turn_client_proto_peers.specs.Channel.Numbers.{IsLeastFree}
use Rattle.turn_client_proto_allocation.specs.declared.pending.PendingRequest.{PendingRequest}
use Rattle.turn_client_proto_allocation.specs.declared.pending.PendingRequest.TheVariants.{ChannelRenewal, Lifetime, NewChannel, NewConnection, NewPermission, Renewal}
use Rattle.turn_client_proto_messages.specs.ReportedRequests.{IsLawfulRequest}
use Rattle.turn_client_proto_messages.specs.declared.request.TurnRequest.TheVariants.{ChannelBind}
use Rattle.turn_client_proto_core.specs.Asking.{requested}
use Rattle.turn_client_proto_core.specs.Deleting.{is_authenticated}
use Rattle.turn_client_proto_core.specs.Numbering.{IsNextNumber, after_number}
use Rattle.turn_client_proto_core.specs.Outcomes.{IsHandled, IsIgnored}
use Rattle.turn_client_proto_core.specs.Responding.{is_error_class}
use Rattle.turn_client_proto_core.specs.declared.protocol.Phase.{Phase}
use Rattle.turn_client_proto_core.specs.declared.protocol.Protocol.{Protocol}

-- ---- a caller requests one

-- The allocation in which a channel to a peer is requested: the first of this transport and the peer's
-- family.
abbrev pub allocation_to : TransportType → SocketAddr → Protocol → Option Allocation
allocation_to transport peer p = find (is_of transport (family_of_socket peer)) p.allocations

-- The allocations after `change` was applied to that allocation.
abbrev pub changed_to : TransportType → SocketAddr → (Allocation → Allocation) → List Allocation → List Allocation
changed_to transport peer change allocations = change_first (is_of transport (family_of_socket peer)) change allocations

-- Why a channel is refused, by that allocation. The first reason that applies counts: there is no allocation,
-- or it has expired; a channel to the peer is active, or has expired and is protected; the client has ended.
abbrev pub bind_refusal_in : Option Allocation → Phase → SocketAddr → (now : ℕ) → Option BindChannelError
bind_refusal_in None phase peer now = Some NoAllocation
bind_refusal_in (Some a) phase peer now = if is_past now a then Some NoAllocation
    else option_or (barring peer now a) (if is_authenticated phase then None else Some NoAllocation)

abbrev pub bind_refusal : Protocol → TransportType → SocketAddr → (now : ℕ) → Option BindChannelError
bind_refusal p transport peer now = bind_refusal_in (allocation_to transport peer p) p.phase peer now

-- The client after a refusal. An allocation that was found to have expired is marked as expired.
abbrev pub bind_refused_in : Option Allocation → TransportType → SocketAddr → ℕ → Protocol → Protocol
bind_refused_in None transport peer now p = p
bind_refused_in (Some a) transport peer now p =
    if is_past now a then record p { allocations = changed_to transport peer marked p.allocations } else p

-- The allocation after a permission for an address was requested along with a channel, unless it is active or
-- requested already.
unfoldable pub permission_beside : IpAddr → (transaction_id : ℕ) → Allocation → Allocation
permission_beside ip transaction_id a =
    if knows ip a then a else permissions.asking (record { ip = ip; others = []; numbers = transaction_id ∷ [] }) a

-- The allocation after a channel, and the permission that it needs, were requested by the request `transaction_id`.
abbrev pub asking_channel : (channel : ℕ) → SocketAddr → (transaction_id : ℕ) → Allocation → Allocation
asking_channel channel peer transaction_id a = permission_beside (socket_ip peer) transaction_id
    (channels.asking (record { channel = channel; peer = peer; numbers = transaction_id ∷ [] }) a)

-- The client after it queued a CHANNEL_BIND with `transaction_id`.
unfoldable pub after_binding : TransportType → SocketAddr → (channel transaction_id now : ℕ) → Protocol → Protocol
after_binding transport peer channel transaction_id now p =
    record (requested (after_number p) (ChannelBind channel peer) transaction_id now) {
      allocations = changed_to transport peer (asking_channel channel peer transaction_id) p.allocations;
    }

-- A channel was requested, with the next transaction ID.
pub record IsChannelRequested (old : Protocol) (transport : TransportType) (peer : SocketAddr) (channel now : ℕ)
    (new : Protocol) : Type 0 where
  pub number : ℕ
  pub is_next : IsNextNumber old number
  pub lawful : IsLawfulRequest (ChannelBind channel peer)
  pub after : new ≡ after_binding transport peer channel number now old

-- A channel is requested with the least free number. The call is refused if no number is free. With
-- `NoMemory`, nothing has changed except that random words were generated.
pub record IsBindTried (old : Protocol) (transport : TransportType) (peer : SocketAddr) (now : ℕ)
    (answer : Result (Unit {0}) BindChannelError) (new : Protocol) : Type 0 where
  pub free : Option ℕ
  pub least : IsLeastFree old.allocations now free
  pub outcome : MatchOption free
      ((answer ≡ Err NoChannel) × (new ≡ old))
      (λ channel. MatchResult answer
      (λ _. IsChannelRequested old transport peer channel now new)
      (λ error. (error ≡ NoMemory) × (new ≡ after_number old)))

-- The result of `bind_channel`: the call is refused, or the channel is requested.
pub record IsBindAnswered (old : Protocol) (transport : TransportType) (peer : SocketAddr) (now : ℕ)
    (answer : Result (Unit {0}) BindChannelError) (new : Protocol) : Type 0 where
  pub refused : IfSome (bind_refusal old transport peer now) (λ error.
      (answer ≡ Err error) × (new ≡ bind_refused_in (allocation_to transport peer old) transport peer now old))
  pub tried : IfNone (bind_refusal old transport peer now) (IsBindTried old transport peer now answer new)

-- ---- a response

-- The permission that the request `transaction_id` asks for along with a channel, in the first allocation that awaits
-- its response.
abbrev pub permission_with : (transaction_id : ℕ) → List Allocation → Option IpAddr
permission_with transaction_id allocations = option_and_then (permission_requested transaction_id) (find (awaits_reply transaction_id) allocations)

-- The event for the permission that comes with a channel, if there is one.
abbrev pub reported_with : (IpAddr → TurnEvent) → Option IpAddr → List TurnEvent
reported_with event None = []
reported_with event (Some ip) = event ip ∷ []

-- The allocations after the permission was granted, if one was requested.
abbrev pub permitted_with : Option IpAddr → (transaction_id now : ℕ) → List Allocation → List Allocation
permitted_with None transaction_id now allocations = allocations
permitted_with (Some ip) transaction_id now allocations = all_permitted ip transaction_id now allocations

-- The client after the channel to a peer that the request `transaction_id` asked for was granted. The event for its
-- permission comes first.
unfoldable pub bound : TransportType → (channel : ℕ) → SocketAddr → Option IpAddr → (transaction_id now : ℕ) → Protocol
    → Protocol
bound transport channel peer ip transaction_id now p = record p {
  allocations = all_bound channel peer transaction_id now (permitted_with ip transaction_id now p.allocations);
  events = p.events ++ reported_with (PermissionCreated transport) ip ++ ChannelCreated transport peer ∷ [];
}

-- The client after the channels that the request `transaction_id` was to renew were renewed.
unfoldable pub renews_channels : (transaction_id now : ℕ) → Protocol → Protocol
renews_channels transaction_id now p = record p { allocations = map (renewed transaction_id now) p.allocations }

-- The allocations after the requested permission was removed, if one was requested.
abbrev pub rejected_with : Option IpAddr → (transaction_id : ℕ) → List Allocation → List Allocation
rejected_with None transaction_id allocations = allocations
rejected_with (Some ip) transaction_id allocations = map (permitted.rejected transaction_id) allocations

-- The client after the channels that the request `transaction_id` asked for were removed, and their permission. The
-- event for the channel comes first.
unfoldable pub unbound : TransportType → SocketAddr → Option IpAddr → (transaction_id : ℕ) → Protocol → Protocol
unbound transport peer ip transaction_id p = record p {
  allocations = rejected_with ip transaction_id (map (rejected transaction_id) p.allocations);
  events = p.events ++ ChannelCreateFailed transport peer ∷ reported_with (PermissionCreateFailed transport) ip;
}

-- The client after the channels that the request `transaction_id` was to renew expired. An event is queued for the
-- first one.
unfoldable pub expires_due : TransportType → SocketAddr → (transaction_id : ℕ) → Protocol → Protocol
expires_due transport peer transaction_id p = record p {
  allocations = map (expire_due transaction_id) p.allocations;
  events = p.events ++ ChannelCreateFailed transport peer ∷ [];
}

-- The outcome of the success response to the request `transaction_id`, by what it asked for.
abbrev pub IsBoundFor : Option PendingRequest → Protocol → (transaction_id now : ℕ) → Bool → Protocol → Type 0
IsBoundFor (Some (NewChannel transport channel peer)) p transaction_id now handled new =
    IsHandled (bound transport channel peer (permission_with transaction_id p.allocations) transaction_id now p) handled new
IsBoundFor (Some (ChannelRenewal transport channel peer)) p transaction_id now handled new =
    IsHandled (renews_channels transaction_id now p) handled new
IsBoundFor (Some (NewPermission transport ip)) p transaction_id now handled new = IsIgnored p handled new
IsBoundFor (Some (Renewal transport ip)) p transaction_id now handled new = IsIgnored p handled new
IsBoundFor (Some (Lifetime lifetime)) p transaction_id now handled new = IsIgnored p handled new
IsBoundFor (Some (NewConnection to)) p transaction_id now handled new = IsIgnored p handled new
IsBoundFor None p transaction_id now handled new = IsIgnored p handled new

-- The outcome of the error response to the request `transaction_id`, by what it asked for.
abbrev pub IsUnboundFor : Option PendingRequest → Protocol → (transaction_id : ℕ) → Bool → Protocol → Type 0
IsUnboundFor (Some (NewChannel transport channel peer)) p transaction_id handled new =
    IsHandled (unbound transport peer (permission_with transaction_id p.allocations) transaction_id p) handled new
IsUnboundFor (Some (ChannelRenewal transport channel peer)) p transaction_id handled new =
    IsHandled (expires_due transport peer transaction_id p) handled new
IsUnboundFor (Some (NewPermission transport ip)) p transaction_id handled new = IsIgnored p handled new
IsUnboundFor (Some (Renewal transport ip)) p transaction_id handled new = IsIgnored p handled new
IsUnboundFor (Some (Lifetime lifetime)) p transaction_id handled new = IsIgnored p handled new
IsUnboundFor (Some (NewConnection to)) p transaction_id handled new = IsIgnored p handled new
IsUnboundFor None p transaction_id handled new = IsIgnored p handled new

-- The outcome of a response to a CHANNEL_BIND, by its class.
abbrev pub IsBindResponded : Protocol → List ℕ → ℕ → Bool → Protocol → Type 0
IsBindResponded p bytes now handled new = MatchBool (is_error_class (class_of (kind_at bytes)))
    (IsUnboundFor (pending_request (number_at bytes) p.allocations) p (number_at bytes) handled new)
    (IsBoundFor (pending_request (number_at bytes) p.allocations) p (number_at bytes) now handled new)
