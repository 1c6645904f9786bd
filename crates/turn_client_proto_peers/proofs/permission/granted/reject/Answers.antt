use Rattle.std.proofs.lemmas.List.Edits.{map_over_more}
use Rattle.turn_client_proto_peers.specs.Permission.Granted.{rejected}
use Rattle.turn_client_proto_peers.proofs.permission.granted.reject.Goals as goal

pub loop-allocation-preserved : goal.loop-allocation-preserved
loop-allocation-preserved c =
    rw (c.reject.ensures, ← c.allocation-item.is) (map_over_more (rejected c.args.transaction_id) c.args.allocations.now c.loop-allocation.allocations c.loop-allocation.allocation-index c.allocation-item.result c.loop-allocation-test.true c.loop-allocation.invariant c.allocation-item.is)
