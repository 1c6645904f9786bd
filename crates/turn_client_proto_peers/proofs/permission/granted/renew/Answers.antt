use Rattle.std.proofs.lemmas.List.Edits.{map_over_more}
use Rattle.turn_client_proto_peers.specs.Permission.Granted.{renewed}
use Rattle.turn_client_proto_peers.proofs.permission.granted.renew.Goals as goal

pub loop-allocation-preserved : goal.loop-allocation-preserved
loop-allocation-preserved c =
    rw (c.renew.ensures, ← c.allocation-item.is) (map_over_more (renewed c.args.transaction_id c.args.now) c.args.allocations.now c.loop-allocation.allocations c.loop-allocation.allocation-index c.allocation-item.result c.loop-allocation-test.true c.loop-allocation.invariant c.allocation-item.is)
