use Rattle.std.proofs.lemmas.List.Edits.{map_over_more}
use Rattle.turn_client_proto_allocation.specs.Permissions.{polled_permission}
use Rattle.turn_client_proto_allocation.proofs.permissions.poll.Goals as goal

pub loop-permission-preserved : goal.loop-permission-preserved
loop-permission-preserved c =
    rw (c.poll.ensures, ← c.permission-item.is) (map_over_more (polled_permission c.args.ended.now) c.args.permissions.now c.loop-permission.permissions c.loop-permission.permission-index c.permission-item.result c.loop-permission-test.true c.loop-permission.invariant c.permission-item.is)
