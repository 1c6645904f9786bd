use Rattle.std.proofs.Common.{ap, arith, drop, length, map, ◌∙◌}
use Rattle.std.proofs.lemmas.List.Edits.{map_over_more}
use Rattle.turn_client_proto_allocation.specs.Refreshing.{renewed}
use Rattle.turn_client_proto_allocation.proofs.Walks.{walked}
use Rattle.turn_client_proto_allocation.proofs.listed.Allocations.renew.Goals as goal

pub loop-allocation-preserved : goal.loop-allocation-preserved
loop-allocation-preserved c =
    rw (c.renew.ensures, ← c.allocation-item.is) (map_over_more (renewed c.args.least c.args.transaction_id c.args.now c.args.lifetime) c.deref_mut-allocation-items.result.now c.loop-allocation.allocation-items c.loop-allocation.allocation-index c.allocation-item.result c.loop-allocation-test.true c.loop-allocation.invariant c.allocation-item.is)

pub returns : goal.returns
returns c =
    let all = c.deref_mut-allocation-items.result.now in
    let left = c.loop-allocation.allocation-items in
    let visible = c.self.inside.items.items in
    walked (renewed c.args.least c.args.transaction_id c.args.now c.args.lifetime) all left (drop (length left) visible) c.loop-allocation.allocation-index c.self.inside.items.len c.loop-allocation.invariant c.loop-allocation-test.false (omega arith)
    ∙ ap (map (renewed c.args.least c.args.transaction_id c.args.now c.args.lifetime)) (c.deref_mut-allocation-items.ensures.value ∙ c.self.view_is)
