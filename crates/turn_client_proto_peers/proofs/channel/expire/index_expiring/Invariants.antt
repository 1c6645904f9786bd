use Rattle.std.proofs.Common.{◌≡◌, take}
use Rattle.turn_client_proto_allocation.specs.Channels.{has_expired}
use Rattle.turn_client_proto_peers.specs.Channel.Expiring.{last_index}
use Rattle.turn_client_proto_peers.proofs.channel.expire.index_expiring.Given as goal

-- The index of the last expired channel so far.
abbrev pub invariant-loop-index : goal.invariant-loop-index
invariant-loop-index l = l.last ≡ last_index (has_expired l.fn.now) (take l.index l.fn.channels)
