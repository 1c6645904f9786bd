use Rattle.std.proofs.Common.{◌≡◌, ap, get_or, rules, slice_set, ◌∙◌}
use Rattle.std.proofs.lemmas.Fn.{filter_same}
use Rattle.std.proofs.lemmas.List.Edits.{map_over_more}
use Rattle.turn_client_proto_allocation.specs.declared.allocation.Allocation.{Allocation}
use Rattle.turn_client_proto_allocation.specs.Channels.{not_pending_request}
use Rattle.turn_client_proto_peers.specs.Channel.Granted.{rejected}
use Rattle.turn_client_proto_peers.proofs.channel.granted.reject.Goals as goal

pub loop-allocation-preserved : goal.loop-allocation-preserved
unfolding rejected
loop-allocation-preserved c =
    let all = c.loop-allocation.allocations in
    let x : Allocation = get_or all c.loop-allocation.allocation-index c.allocation-item.result in
    let is_there = ap (λ y. get_or all c.loop-allocation.allocation-index y) c.allocation-item.is in
    let pending : c.retain.new.self ≡ not_pending_request c.args.transaction_id x.pending_channels = filter_same _ _ _ (λ x b f' k. search rules) _ _ c.retain.ensures in
    ap (λ l. slice_set all c.loop-allocation.allocation-index (record x { pending_channels = l })) pending
    ∙ map_over_more (rejected c.args.transaction_id) c.args.allocations.now all c.loop-allocation.allocation-index x c.loop-allocation-test.true c.loop-allocation.invariant is_there
