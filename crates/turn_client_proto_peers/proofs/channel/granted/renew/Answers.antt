use Rattle.std.proofs.Common.{ap, get_or, slice_set, subst, ◌≡◌, ◌∙◌, map}
use Rattle.std.proofs.lemmas.List.Edits.{map_over_more}
use Rattle.turn_client_proto_allocation.specs.declared.allocation.Allocation.{Allocation}
use Rattle.turn_client_proto_allocation.proofs.Lent.{each_back}
use Rattle.turn_client_proto_allocation.specs.Channels.{renewed_channel}
use Rattle.turn_client_proto_peers.specs.Channel.Granted.{channel_end, renewed}
use Rattle.turn_client_proto_peers.proofs.channel.granted.renew.Goals as goal

pub loop-allocation-preserved : goal.loop-allocation-preserved
unfolding renewed
loop-allocation-preserved c =
    let all = c.loop-allocation.allocations in
    let x : Allocation = get_or all c.loop-allocation.allocation-index c.allocation-item.result in
    let is_there = ap (λ y. get_or all c.loop-allocation.allocation-index y) c.allocation-item.is in
    let each = subst (λ e. c.renew_each.new.channels ≡ map (renewed_channel c.args.transaction_id e) c.as_mut_slice.result.now) c.channel_end.ensures c.renew_each.ensures in
    let channels = each_back (renewed_channel c.args.transaction_id (channel_end c.args.now)) x.channels c.as_mut_slice.result.now c.renew_each.new.channels c.as_mut_slice.ensures.value each in
    ap (λ l. slice_set all c.loop-allocation.allocation-index (record x { channels = l })) channels
    ∙ map_over_more (renewed c.args.transaction_id c.args.now) c.args.allocations.now all c.loop-allocation.allocation-index x c.loop-allocation-test.true c.loop-allocation.invariant is_there
