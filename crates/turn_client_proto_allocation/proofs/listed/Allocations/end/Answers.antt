use Rattle.std.proofs.Common.{ap, arith, drop, length, map, ◌∙◌}
use Rattle.std.proofs.lemmas.List.Edits.{map_over_more}
use Rattle.turn_client_proto_allocation.specs.Refreshing.{ended}
use Rattle.turn_client_proto_allocation.proofs.Walks.{walked}
use Rattle.turn_client_proto_allocation.proofs.listed.Allocations.end.Goals as goal

pub loop-allocation-preserved : goal.loop-allocation-preserved
loop-allocation-preserved c =
    rw (c.end.ensures, ← c.allocation-item.is) (map_over_more (ended c.args.now) c.deref_mut-allocation-items.result.now c.loop-allocation.allocation-items c.loop-allocation.allocation-index c.allocation-item.result c.loop-allocation-test.true c.loop-allocation.invariant c.allocation-item.is)

pub returns : goal.returns
returns c =
    let all = c.deref_mut-allocation-items.result.now in
    let left = c.loop-allocation.allocation-items in
    let visible = c.self.inside.items.items in
    walked (ended c.args.now) all left (drop (length left) visible) c.loop-allocation.allocation-index c.self.inside.items.len c.loop-allocation.invariant c.loop-allocation-test.false (omega arith)
    ∙ ap (map (ended c.args.now)) (c.deref_mut-allocation-items.ensures.value ∙ c.self.view_is)
