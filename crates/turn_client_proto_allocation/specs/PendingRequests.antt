-- What the outstanding requests of a client are for, found by their transaction IDs (RFC 8489, section 6).
use Rattle.std.specs.Prelude.{ℕ, Bool, List, [], find, is_some, Option, Some, None, if◌then◌else◌}
use Rattle.std.specs.List.{list_any}
use Rattle.std.specs.Option.{option_and_then, option_map, option_or}
use Rattle.std.specs.declared.net.ip_addr.IpAddr.{IpAddr}
use Rattle.turn_client_proto_allocation.specs.Awaited.{asks_for_channel, asks_for_permission, is_connecting, renews_channel, renews_permission}
use Rattle.turn_client_proto_allocation.specs.Changes.{change_first}
use Rattle.turn_client_proto_allocation.specs.Permissions as permissions
use Rattle.turn_client_proto_allocation.specs.Refreshing.{lifetime_requested, refreshing}
use Rattle.turn_client_proto_allocation.specs.declared.allocation.Allocation.{Allocation}
use Rattle.turn_client_proto_allocation.specs.declared.connection.Connecting.{Connecting}
use Rattle.turn_client_proto_allocation.specs.declared.permission.PendingPermission.{PendingPermission}
use Rattle.turn_client_proto_allocation.specs.Channels.{requested_again, renewed_again}
use Rattle.turn_client_proto_allocation.specs.declared.pending.PendingRequest.{PendingRequest}
use Rattle.turn_client_proto_allocation.specs.declared.pending.PendingRequest.TheVariants.{ChannelRenewal, Lifetime, NewChannel, NewConnection, NewPermission, Renewal}

-- The new channel that the request with this transaction ID requests.
abbrev pub channel_requested : ℕ → Allocation → Option PendingRequest
channel_requested transaction_id a =
    option_map (λ c. NewChannel a.transport c.channel c.peer) (find (asks_for_channel transaction_id) a.pending_channels)

-- The channel that the request with this transaction ID is to renew.
abbrev pub channel_renewal_requested : ℕ → Allocation → Option PendingRequest
channel_renewal_requested transaction_id a =
    option_map (λ c. ChannelRenewal a.transport c.number c.peer) (find (renews_channel transaction_id) a.channels)

-- The new permission that the request with this transaction ID requests, by the first of its addresses.
abbrev pub new_requested : ℕ → Allocation → Option PendingRequest
new_requested transaction_id a =
    option_map (λ p. NewPermission a.transport p.ip) (find (asks_for_permission transaction_id) a.pending_permissions)

-- The permission that the request with this transaction ID is to renew.
abbrev pub renewal_requested : ℕ → Allocation → Option PendingRequest
renewal_requested transaction_id a =
    option_map (λ p. Renewal a.transport p.ip) (find (renews_permission transaction_id) a.permissions)

-- The connection that the request with this transaction ID requests.
abbrev pub connection_requested : ℕ → Allocation → Option PendingRequest
connection_requested transaction_id a = option_map (λ c. NewConnection c.peer) (find (is_connecting transaction_id) a.connecting)

-- What the request with this transaction ID is for in the allocation, if the allocation awaits its response.
-- A request is for one kind of thing. The exception is a CHANNEL_BIND, which is for a channel and may also be
-- for its permission: then the result is the channel. Of several things of one kind the first counts.
unfoldable pub requested_of : ℕ → Allocation → Option PendingRequest
requested_of transaction_id a = option_or (option_map Lifetime (lifetime_requested transaction_id a.pending_refreshes))
    (option_or (channel_requested transaction_id a) (option_or (channel_renewal_requested transaction_id a)
    (option_or (new_requested transaction_id a) (option_or (renewal_requested transaction_id a) (connection_requested transaction_id a)))))

-- The allocation awaits the response to the request with this transaction ID.
abbrev pub awaits_reply : ℕ → Allocation → Bool
awaits_reply transaction_id a = is_some (requested_of transaction_id a)

-- What the request with this transaction ID is for, by the first allocation that awaits its response.
abbrev pub pending_request : ℕ → List Allocation → Option PendingRequest
pending_request transaction_id allocations = option_and_then (requested_of transaction_id) (find (awaits_reply transaction_id) allocations)

-- The addresses that a request for the pending permission is for, if one was found.
abbrev pub addresses_in : Option PendingPermission → List IpAddr
addresses_in None = []
addresses_in (Some p) = permissions.addresses_of p

-- The addresses for which the request with this transaction ID requests permissions in the allocation.
abbrev pub addresses_requested : ℕ → Allocation → List IpAddr
addresses_requested transaction_id a = addresses_in (find (asks_for_permission transaction_id) a.pending_permissions)

-- The addresses for which a request requests permissions in the allocation, if one was found.
abbrev pub addresses_wanted : ℕ → Option Allocation → List IpAddr
addresses_wanted transaction_id None = []
addresses_wanted transaction_id (Some a) = addresses_requested transaction_id a

-- The addresses for which the request with this transaction ID requests permissions, by the first allocation that
-- awaits its response.
abbrev pub addresses_for : ℕ → List Allocation → List IpAddr
addresses_for transaction_id allocations = addresses_wanted transaction_id (find (awaits_reply transaction_id) allocations)

-- The allocation after the request `transaction_id` was added to the first pending permission that the request `old`
-- requests. If `old` requests none, it is added to the first permission that `old` is to renew.
unfoldable pub permission_too : (old transaction_id : ℕ) → Allocation → Allocation
permission_too old transaction_id a = if list_any (asks_for_permission old) a.pending_permissions
    then record a { pending_permissions = permissions.requested_again old transaction_id a.pending_permissions }
    else record a { permissions = permissions.renewed_again old transaction_id a.permissions }

-- The outstanding CONNECT with its transaction ID replaced.
abbrev pub connecting_by : (transaction_id : ℕ) → Connecting → Connecting
connecting_by transaction_id c = record c { number = transaction_id }

-- The outstanding CONNECTs with the transaction ID `old` replaced by `transaction_id` in the first one that has it.
abbrev pub connected_again : (old transaction_id : ℕ) → List Connecting → List Connecting
connected_again old transaction_id connecting = change_first (is_connecting old) (connecting_by transaction_id) connecting

-- The allocation after the request `transaction_id` was made to request what the request `old` requests. For a
-- CHANNEL_BIND that is its channel and its permission.
abbrev pub reissued_under : PendingRequest → (old transaction_id : ℕ) → Allocation → Allocation
reissued_under (Lifetime lifetime) old transaction_id a = refreshing (record { number = transaction_id; lifetime = lifetime }) a
reissued_under (NewChannel transport channel peer) old transaction_id a =
    permission_too old transaction_id (record a { pending_channels = requested_again old transaction_id a.pending_channels })
reissued_under (ChannelRenewal transport channel peer) old transaction_id a =
    permission_too old transaction_id (record a { channels = renewed_again old transaction_id a.channels })
reissued_under (NewPermission transport ip) old transaction_id a =
    record a { pending_permissions = permissions.requested_again old transaction_id a.pending_permissions }
reissued_under (Renewal transport ip) old transaction_id a =
    record a { permissions = permissions.renewed_again old transaction_id a.permissions }
reissued_under (NewConnection peer) old transaction_id a = record a { connecting = connected_again old transaction_id a.connecting }

-- The allocations after the request `transaction_id` was added to the first one that awaits the response to the
-- request `old`.
abbrev pub all_reissued_under : PendingRequest → (old transaction_id : ℕ) → List Allocation → List Allocation
all_reissued_under requested old transaction_id allocations = change_first (awaits_reply old) (reissued_under requested old transaction_id) allocations
