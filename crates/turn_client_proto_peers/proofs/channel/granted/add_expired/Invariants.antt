use Rattle.std.proofs.Common.{◌≡◌, ◌++◌, map, filter, take}
use Rattle.turn_client_proto_allocation.specs.Awaited.{renews_channel}
use Rattle.turn_client_proto_allocation.specs.Channels.{expired_of}
use Rattle.turn_client_proto_peers.proofs.channel.granted.add_expired.Given as goal

-- The channels so far that the request was to renew are appended.
abbrev pub invariant-loop-channel : goal.invariant-loop-channel
invariant-loop-channel l =
    l.expired ≡ l.fn.expired ++ map expired_of (filter (renews_channel l.transaction_id) (take l.channel-index l.channels))
