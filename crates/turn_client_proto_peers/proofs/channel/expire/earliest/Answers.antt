use Rattle.std.proofs.Common.{ap, ◌∙◌}
use Rattle.std.proofs.lemmas.List.{take_all}
use Rattle.turn_client_proto_peers.proofs.EarliestChannel.{earliest, earliest_is}
use Rattle.turn_client_proto_peers.proofs.channel.expire.earliest.Goals as goal

pub returns : goal.returns
returns c =
    let all = take_all c.loop-allocation.allocation-index c.args.allocations.now c.loop-allocation-test.false in
    earliest_is c.args.ended.now c.args.ready c.args.now c.args.wait c.args.allocations.now c.loop-allocation.next
    (c.loop-allocation.invariant ∙ ap (earliest c.args.ended.now c.args.ready c.args.now c.args.wait) all)
