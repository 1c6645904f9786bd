-- Expiry of channels (RFC 8656, section 12), and the events for it.
use Rattle.std.specs.Prelude.{ℕ, ◌+◌, min, Bool, List, [], ◌∷◌, ◌++◌, map, filter, fold, remove, slice_get, Option, Some, None, option_to_list, if◌then◌else◌}
use Rattle.std.specs.List.{flat_map}
use Rattle.std.specs.Option.{option_and_then, option_map}
use Rattle.std.specs.declared.net.socket_addr.SocketAddr.{SocketAddr}
use Rattle.turn_client_proto_allocation.specs.declared.allocation.Allocation.{Allocation}
use Rattle.turn_client_proto_allocation.specs.declared.channel.Channel.{Channel}
use Rattle.turn_client_proto_allocation.specs.declared.channel.PendingChannel.{PendingChannel}
use Rattle.turn_client_proto_allocation.specs.Channels.{has_expired, is_over, expired_of, next_of_channel, not_forgotten, not_over, polled_channel}

-- ---- the channel that lapses

-- The index after the first element, if there is a later index; else the index `first`.
abbrev pub following : Option ℕ → Option ℕ → Option ℕ
following None first = first
following (Some index) first = Some (index + 1)

-- The index of the last element that passes.
abbrev pub last_index : {X : Type 0} → (X → Bool) → List X → Option ℕ
last_index passes [] = None
last_index passes (x ∷ xs) = following (last_index passes xs) (if passes x then Some 0 else None)

-- The list without the element at an index.
abbrev pub without : {X : Type 0} → List X → Option ℕ → List X
without xs None = xs
without xs (Some index) = remove xs index

-- The channel that is moved to the expired channels: the last one that has expired.
abbrev pub expiring : ℕ → List Channel → Option Channel
expiring now channels = option_and_then (slice_get channels) (last_index (has_expired now) channels)

-- The peer of that channel.
abbrev pub peer_expiring : ℕ → List Channel → Option SocketAddr
peer_expiring now channels = option_map (λ c. c.peer) (expiring now channels)

-- The peers of those channels, at most one per allocation.
abbrev pub peers_expiring : ℕ → Allocation → List SocketAddr
peers_expiring now a = option_to_list (peer_expiring now a.channels)

abbrev pub all_expiring : ℕ → List Allocation → List SocketAddr
all_expiring now allocations = flat_map (peers_expiring now) allocations

-- The allocation after that channel was moved to the expired channels.
unfoldable pub expired : ℕ → Allocation → Allocation
expired now a = record a {
  channels = without a.channels (last_index (has_expired now) a.channels);
  expired_channels = a.expired_channels ++ option_to_list (option_map expired_of (expiring now a.channels));
}

-- ---- as time passes

-- The allocation after the rest of a poll: renewals that timed out are forgotten, pending channels whose
-- request timed out are removed, and of the expired channels only those that are still protected remain.
abbrev pub left : Option ℕ → ℕ → Allocation → Allocation
left ended now a = record a {
  channels = map (polled_channel ended) a.channels;
  pending_channels = not_over ended a.pending_channels;
  expired_channels = not_forgotten now a.expired_channels;
}

-- The allocation after a poll: first the expired channel is moved, then the rest is done. So a channel that
-- is moved only after the end of its protection is forgotten at once.
unfoldable pub polled : Option ℕ → ℕ → Allocation → Allocation
polled ended now a = left ended now (expired now a)

-- The peers of the pending channels whose request timed out.
abbrev pub peers_over : Option ℕ → List PendingChannel → List SocketAddr
peers_over ended pending = map (λ c. c.peer) (filter (is_over ended) pending)

-- The times at which a channel of the allocation has to be polled.
abbrev pub nexts : Option ℕ → (ready now : ℕ) → Allocation → List ℕ
nexts ended ready now a = map (next_of_channel ended ready now) a.channels

abbrev pub all_nexts : Option ℕ → (ready now : ℕ) → List Allocation → List ℕ
all_nexts ended ready now allocations = flat_map (nexts ended ready now) allocations

-- The earliest of `wait` and of the times of the channels, computed one after another.
abbrev pub earlier_of : Option ℕ → (ready now wait : ℕ) → List Channel → ℕ
earlier_of ended ready now wait channels = fold (λ w c. min w (next_of_channel ended ready now c)) wait channels
