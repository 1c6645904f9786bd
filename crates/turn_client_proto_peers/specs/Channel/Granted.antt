-- The effect of a response to a CREATE_PERMISSION or a CHANNEL_BIND on permissions and channels (RFC 8656,
-- sections 10.3 and 12.3).
use Rattle.std.specs.Prelude.{ℕ, List, [], ◌∷◌, ◌++◌, map, filter, find, Option}
use Rattle.std.specs.Option.{option_map}
use Rattle.std.specs.declared.net.ip_addr.IpAddr.{IpAddr}
use Rattle.std.specs.declared.net.socket_addr.SocketAddr.{SocketAddr}
use Rattle.stun_types_base.specs.Times.{time_after}
use Rattle.turn_client_proto_allocation.specs.Awaited.{asks_for_permission, renews_channel}
use Rattle.turn_client_proto_allocation.specs.Changes.{change_first}
use Rattle.turn_client_proto_allocation.specs.declared.allocation.Allocation.{Allocation}
use Rattle.turn_client_proto_allocation.specs.declared.channel.Channel.{Channel}
use Rattle.turn_client_proto_peers.specs.Permission.Granted.{permitted}
use Rattle.turn_client_proto_allocation.specs.PendingRequests.{awaits_reply}
use Rattle.turn_client_proto_allocation.specs.Channels.{channel_lifetime, expired_of, not_pending_request, not_renewed_by, renewed_channel}

-- The expiry of a channel that is granted at `now`.
abbrev pub channel_end : ℕ → ℕ
channel_end now = time_after now channel_lifetime

-- A channel that was granted at `now`.
abbrev pub granted_to : (channel : ℕ) → SocketAddr → (now : ℕ) → Channel
granted_to channel peer now = record { number = channel; peer = peer; expiry = channel_end now; renewals = [] }

-- The allocation after the request `number` for a channel to the peer was granted at `now`.
abbrev pub bound : (channel : ℕ) → SocketAddr → (number now : ℕ) → Allocation → Allocation
bound channel peer number now a = record a {
  channels = a.channels ++ granted_to channel peer now ∷ [];
  pending_channels = not_pending_request number a.pending_channels;
}

-- The allocations after that: the first one that awaits the response gets the channel.
abbrev pub all_bound : (channel : ℕ) → SocketAddr → (number now : ℕ) → List Allocation → List Allocation
all_bound channel peer number now allocations =
    change_first (awaits_reply number) (bound channel peer number now) allocations

-- The allocation after a success response to this request: each channel that it was to renew is extended.
unfoldable pub renewed : (number now : ℕ) → Allocation → Allocation
renewed number now a = record a { channels = map (renewed_channel number (channel_end now)) a.channels }

-- The allocation after an error response to this request: each pending channel that it requested is removed.
unfoldable pub rejected : ℕ → Allocation → Allocation
rejected number a = record a { pending_channels = not_pending_request number a.pending_channels }

-- The allocation after an error response to this request: each channel that it was to renew is moved to the
-- expired channels, with its expiry unchanged.
unfoldable pub expire_due : ℕ → Allocation → Allocation
expire_due number a = record a {
  channels = not_renewed_by number a.channels;
  expired_channels = a.expired_channels ++ map expired_of (filter (renews_channel number) a.channels);
}
