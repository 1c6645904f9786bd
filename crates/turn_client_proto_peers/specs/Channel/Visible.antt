-- The channels that the getters list.
use Rattle.std.specs.Prelude.{ℕ, List, [], map, if◌then◌else◌}
use Rattle.std.specs.List.{flat_map}
use Rattle.std.specs.declared.net.socket_addr.SocketAddr.{SocketAddr}
use Rattle.turn_client_proto_allocation.specs.declared.allocation.Allocation.{Allocation}
use Rattle.turn_client_proto_allocation.specs.declared.channel.Channel.{Channel}

-- The active channels of an allocation that is not marked as expired.
abbrev pub channels_of : Allocation → List Channel
channels_of a = if a.is_expired then [] else a.channels

-- Their numbers and peers.
abbrev pub pairs_of : List Channel → List (ℕ × SocketAddr)
pairs_of channels = map (λ c. (c.number, c.peer)) channels

-- The numbers and peers of the channels of all allocations, in order.
abbrev pub channels_listed : List Allocation → List (ℕ × SocketAddr)
channels_listed allocations = flat_map (λ a. pairs_of (channels_of a)) allocations
