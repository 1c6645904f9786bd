use Rattle.std.proofs.lemmas.List.Edits.{map_over_more}
use Rattle.turn_client_proto_allocation.specs.Channels.{renewed_channel}
use Rattle.turn_client_proto_peers.proofs.channel.granted.renew_each.Goals as goal

pub loop-channel-preserved : goal.loop-channel-preserved
loop-channel-preserved c =
    rw (c.renew.ensures, ← c.channel-item.is) (map_over_more (renewed_channel c.args.transaction_id c.args.expiry) c.args.channels.now c.loop-channel.channels c.loop-channel.channel-index c.channel-item.result c.loop-channel-test.true c.loop-channel.invariant c.channel-item.is)
