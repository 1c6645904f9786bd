use Rattle.std.proofs.Common.{◌≡◌, ◌++◌, ap, filter, get_or, map, rules, slice_set, ◌∙◌}
use Rattle.std.proofs.lemmas.Fn.{filter_same}
use Rattle.std.proofs.lemmas.List.Edits.{map_over_more}
use Rattle.turn_client_proto_allocation.specs.Awaited.{renews_channel}
use Rattle.turn_client_proto_allocation.specs.declared.allocation.Allocation.{Allocation}
use Rattle.turn_client_proto_allocation.specs.Channels.{expired_of, not_renewed_by}
use Rattle.turn_client_proto_peers.specs.Channel.Granted.{expire_due}
use Rattle.turn_client_proto_peers.proofs.channel.granted.expire_due.Goals as goal

pub loop-allocation-preserved : goal.loop-allocation-preserved
unfolding expire_due
loop-allocation-preserved c =
    let all = c.loop-allocation.allocations in
    let x : Allocation = get_or all c.loop-allocation.allocation-index c.allocation-item.result in
    let is_there = ap (λ y. get_or all c.loop-allocation.allocation-index y) c.allocation-item.is in
    let standing : c.retain.new.self ≡ not_renewed_by c.args.transaction_id x.channels = filter_same _ _ _ (λ x b f' k. search rules) _ _ c.retain.ensures in
    let expired : c.add_expired.new.expired ≡ x.expired_channels ++ map expired_of (filter (renews_channel c.args.transaction_id) x.channels) = c.in_ok-add_expired.ensures ∙ ap (λ l. x.expired_channels ++ map expired_of (filter (renews_channel c.args.transaction_id) l)) c.as_slice-channels.ensures in
    ap (λ y. slice_set all c.loop-allocation.allocation-index y)
    (ap (λ l. record x { channels = l; expired_channels = c.add_expired.new.expired }) standing
    ∙ ap (λ l. record x { channels = not_renewed_by c.args.transaction_id x.channels; expired_channels = l }) expired)
    ∙ map_over_more (expire_due c.args.transaction_id) c.args.allocations.now all c.loop-allocation.allocation-index x c.loop-allocation-test.true c.loop-allocation.invariant is_there
