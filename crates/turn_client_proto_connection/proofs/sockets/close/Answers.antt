use Rattle.std.proofs.Common.{◌≡◌, ap, filter, get_or, rules, slice_set, ◌∙◌}
use Rattle.std.specs.Prelude.{not}
use Rattle.std.proofs.lemmas.Fn.{filter_same}
use Rattle.std.proofs.lemmas.List.Edits.{map_over_more}
use Rattle.turn_client_proto_allocation.specs.declared.allocation.Allocation.{Allocation}
use Rattle.turn_client_proto_connection.specs.Sockets.{closed, is_from}
use Rattle.turn_client_proto_connection.proofs.sockets.close.Goals as goal

pub loop-allocation-preserved : goal.loop-allocation-preserved
unfolding closed
loop-allocation-preserved c =
    let all = c.loop-allocation.allocations in
    let x : Allocation = get_or all c.loop-allocation.allocation-index c.allocation-item.result in
    let is_there = ap (λ y. get_or all c.loop-allocation.allocation-index y) c.allocation-item.is in
    let left : c.retain.new.self ≡ filter (λ k. not (is_from c.args.here k)) x.connections = filter_same _ _ _ (λ x b f' k. search rules) _ _ c.retain.ensures in
    ap (λ l. slice_set all c.loop-allocation.allocation-index (record x { connections = l })) left
    ∙ map_over_more (closed c.args.here) c.args.allocations.now all c.loop-allocation.allocation-index x c.loop-allocation-test.true c.loop-allocation.invariant is_there
