use Rattle.std.proofs.Common.{rules, ◌≤◌, ◌<◌, length}
use Rattle.stun_proto_transaction.proofs.Bounds.{set_least}
use Rattle.stun_proto_transaction.proofs.times.Times.set.Goals as goal

pub invariant_of-self : goal.invariant_of-self
invariant_of-self c =
    let within : c.args.position < length c.self.inside.times.items = search rules in
    let before : c.args.position < c.self.inside.passed = search rules in
    let lower : c.args.time ≤ c.self.inside.least = search rules in
    set_least _ _ within _ _ _ _ c.self.invariant before lower
