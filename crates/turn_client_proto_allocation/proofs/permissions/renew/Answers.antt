use Rattle.std.proofs.lemmas.List.Edits.{map_over_more}
use Rattle.turn_client_proto_allocation.specs.Permissions.{renewed_permission}
use Rattle.turn_client_proto_allocation.proofs.permissions.renew.Goals as goal

pub loop-permission-preserved : goal.loop-permission-preserved
loop-permission-preserved c =
    rw (c.renew.ensures, ← c.permission-item.is) (map_over_more (renewed_permission c.args.transaction_id c.args.expiry) c.args.permissions.now c.loop-permission.permissions c.loop-permission.permission-index c.permission-item.result c.loop-permission-test.true c.loop-permission.invariant c.permission-item.is)
