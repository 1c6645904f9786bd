use Rattle.std.proofs.Common.{◌≡◌, ◌++◌, map, take}
use Rattle.turn_client_proto_api.specs.declared.event.TurnEvent.TheVariants.{ChannelCreateFailed}
use Rattle.turn_client_proto_peers.specs.Channel.Expiring.{peers_over}
use Rattle.turn_client_proto_peers.proofs.channel.expire.report_over.Given as goal

-- The events of the elements so far are queued.
abbrev pub invariant-loop-channel : goal.invariant-loop-channel
invariant-loop-channel l =
    l.events ≡ l.fn.events ++ map (ChannelCreateFailed l.transport) (peers_over l.ended (take l.channel-index l.pending))
