use Rattle.std.proofs.lemmas.List.Edits.{map_over_more}
use Rattle.turn_client_proto_peers.specs.Permission.Reporting.{polled}
use Rattle.turn_client_proto_peers.proofs.permission.reporting.poll.Goals as goal

pub loop-allocation-preserved : goal.loop-allocation-preserved
loop-allocation-preserved c =
    rw (c.poll.ensures, ← c.allocation-item.is) (map_over_more (polled c.args.ended.now c.args.now) c.args.allocations.now c.loop-allocation.allocations c.loop-allocation.allocation-index c.allocation-item.result c.loop-allocation-test.true c.loop-allocation.invariant c.allocation-item.is)
