-- Channels that the client requests (RFC 8656, section 12.1).
use Rattle.std.specs.Prelude.{ℕ, nat_le, Bool, ◌&&◌, [], ◌∷◌, ◌++◌, find, Option, Some, None, if◌then◌else◌}
use Rattle.std.specs.List.{list_any}
use Rattle.std.specs.declared.net.socket_addr.SocketAddr.{SocketAddr}
use Rattle.turn_client_proto_allocation.specs.declared.allocation.Allocation.{Allocation}
use Rattle.turn_client_proto_allocation.specs.declared.channel.Channel.{Channel}
use Rattle.turn_client_proto_allocation.specs.declared.channel.ExpiredChannel.{ExpiredChannel}
use Rattle.turn_client_proto_allocation.specs.declared.channel.PendingChannel.{PendingChannel}
use Rattle.turn_client_proto_api.specs.declared.error.BindChannelError.{BindChannelError}
use Rattle.turn_client_proto_api.specs.declared.error.BindChannelError.TheVariants.{AlreadyExists, ExpiredChannelExists}
use Rattle.turn_client_proto_allocation.specs.Same.{is_same_address}
use Rattle.turn_client_proto_allocation.specs.Channels.{protected_until}

abbrev pub is_to : SocketAddr → Channel → Bool
is_to peer c = is_same_address c.peer peer

-- A channel to the peer has expired and is still protected. At the end of its protection it still counts.
abbrev pub bars : SocketAddr → ℕ → ExpiredChannel → Bool
bars peer now c = is_same_address c.peer peer && nat_le now (protected_until c)

abbrev pub barred_by : Option ExpiredChannel → Option BindChannelError
barred_by None = None
barred_by (Some c) = Some (ExpiredChannelExists (protected_until c))

-- Why no channel to the peer can be bound in the allocation: there is an active one, or one has expired and
-- is protected. Of several protected ones the first counts.
unfoldable pub barring : SocketAddr → (now : ℕ) → Allocation → Option BindChannelError
barring peer now a =
    if list_any (is_to peer) a.channels then Some AlreadyExists else barred_by (find (bars peer now) a.expired_channels)

-- The allocation after a channel was requested in it.
abbrev pub asking : PendingChannel → Allocation → Allocation
asking pending a = record a { pending_channels = a.pending_channels ++ pending ∷ [] }
