use Rattle.std.proofs.Common.{ℕ, ◌<◌, subst}
use Rattle.turn_client_proto_peers.proofs.Several.{taken_off}
use Rattle.turn_client_proto_peers.proofs.permission.one.keep_first.Goals as goal

pub loop-permissions-smaller : goal.loop-permissions-smaller
loop-permissions-smaller c =
    (taken_off c.args.count c.loop-permissions.permissions c.pop.new.self c.pop.ensures.undone (subst (λ (n : ℕ). c.args.count < n) c.len.ensures c.loop-permissions-test.true)).1
