use Rattle.std.proofs.Common.{◌≡◌, ap, get_or, slice_set, ◌∙◌}
use Rattle.std.proofs.lemmas.List.Edits.{map_over_more}
use Rattle.turn_client_proto_allocation.specs.declared.allocation.Allocation.{Allocation}
use Rattle.turn_client_proto_connection.specs.Sockets.{release, not_for}
use Rattle.turn_client_proto_connection.proofs.sockets.release.Goals as goal

pub loop-allocation-preserved : goal.loop-allocation-preserved
unfolding release
loop-allocation-preserved c =
    let all = c.loop-allocation.allocations in
    let x : Allocation = get_or all c.loop-allocation.allocation-index c.allocation-item.result in
    let is_there = ap (λ y. get_or all c.loop-allocation.allocation-index y) c.allocation-item.is in
    let left : c.drop_first.new.waiting ≡ not_for c.args.connection c.args.peer x.waiting = c.drop_first.ensures in
    ap (λ l. slice_set all c.loop-allocation.allocation-index (record x { waiting = l })) left
    ∙ map_over_more (release c.args.connection c.args.peer) c.args.allocations.now all c.loop-allocation.allocation-index x c.loop-allocation-test.true c.loop-allocation.invariant is_there
