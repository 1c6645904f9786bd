use Rattle.std.proofs.Common.{◌≡◌, take}
use Rattle.turn_client_proto_peers.specs.Channel.Expiring.{earlier_of}
use Rattle.turn_client_proto_peers.proofs.channel.expire.earliest_of.Given as goal

-- The earliest time of the elements so far.
abbrev pub invariant-loop-channel : goal.invariant-loop-channel
invariant-loop-channel l = l.next ≡ earlier_of l.ended l.ready l.now l.fn.wait (take l.channel-index l.channels)
