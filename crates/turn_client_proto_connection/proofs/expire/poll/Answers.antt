use Rattle.std.proofs.Common.{◌≡◌, ap, get_or, rules, slice_set, ◌∙◌}
use Rattle.std.proofs.lemmas.Fn.{filter_same}
use Rattle.std.proofs.lemmas.List.Edits.{map_over_more}
use Rattle.turn_client_proto_allocation.specs.declared.allocation.Allocation.{Allocation}
use Rattle.turn_client_proto_connection.specs.Attempts.{not_lost}
use Rattle.turn_client_proto_connection.specs.Expiring.{not_gone, polled}
use Rattle.turn_client_proto_connection.specs.Reported.{given_up, not_over}
use Rattle.turn_client_proto_connection.proofs.expire.poll.Goals as goal

pub loop-allocation-preserved : goal.loop-allocation-preserved
unfolding given_up polled
loop-allocation-preserved c =
    let all = c.loop-allocation.allocations in
    let x : Allocation = get_or all c.loop-allocation.allocation-index c.allocation-item.result in
    let is_there = ap (λ y. get_or all c.loop-allocation.allocation-index y) c.allocation-item.is in
    let connecting : c.retain.new.self ≡ not_over c.args.ended.now x.connecting = filter_same _ _ _ (λ x b f' k. search rules) _ _ c.retain.ensures in
    let connections : c.retain-in-loop-allocation.new.self ≡ not_gone c.args.ended.now c.args.now x.connections = filter_same _ _ _ (λ x b f' k. search rules) _ _ c.retain-in-loop-allocation.ensures in
    let waiting : c.drop_lost.new.waiting ≡ not_lost c.args.ended.now x.waiting = c.drop_lost.ensures in
    ap (λ l. slice_set all c.loop-allocation.allocation-index (record x { connecting = l; connections = c.retain-in-loop-allocation.new.self; waiting = c.drop_lost.new.waiting })) connecting
    ∙ ap (λ l. slice_set all c.loop-allocation.allocation-index (record x { connecting = not_over c.args.ended.now x.connecting; connections = l; waiting = c.drop_lost.new.waiting })) connections
    ∙ ap (λ l. slice_set all c.loop-allocation.allocation-index (record x { connecting = not_over c.args.ended.now x.connecting; connections = not_gone c.args.ended.now c.args.now x.connections; waiting = l })) waiting
    ∙ map_over_more (polled c.args.ended.now c.args.now) c.args.allocations.now all c.loop-allocation.allocation-index x c.loop-allocation-test.true c.loop-allocation.invariant is_there
