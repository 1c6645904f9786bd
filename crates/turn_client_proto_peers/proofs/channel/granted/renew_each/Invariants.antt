use Rattle.std.proofs.Common.{◌≡◌, ◌++◌, map, take, drop}
use Rattle.turn_client_proto_allocation.specs.Channels.{renewed_channel}
use Rattle.turn_client_proto_peers.proofs.channel.granted.renew_each.Given as goal

-- The elements so far are changed, and the others are as they were.
abbrev pub invariant-loop-channel : goal.invariant-loop-channel
invariant-loop-channel l = l.channels ≡ map (renewed_channel l.transaction_id l.expiry) (take l.channel-index l.fn.channels) ++ drop l.channel-index l.fn.channels
