use Rattle.std.proofs.Common.{rules, ◌≤◌, ◌<◌, length}
use Rattle.stun_proto_transaction.proofs.Bounds.{inserted_least, inserted_later}
use Rattle.stun_proto_transaction.proofs.times.Times.insert.Goals as goal

pub invariant_of-self-then-le : goal.invariant_of-self-then-le
invariant_of-self-then-le c =
    let within : c.args.position ≤ length c.self.inside.times.items = search rules in
    let before : c.args.position ≤ c.self.inside.passed = search rules in
    let lower : c.args.time ≤ c.self.inside.least = search rules in
    rw c.in_ok-insert.ensures.items (inserted_least _ _ _ within _ _ _ c.self.invariant before lower)

pub invariant_of-self-else-le : goal.invariant_of-self-else-le
invariant_of-self-else-le c =
    let within : c.args.position ≤ length c.self.inside.times.items = search rules in
    let before : c.args.position ≤ c.self.inside.passed = search rules in
    let later : c.self.inside.least < c.args.time = search rules in
    rw c.in_ok-insert.ensures.items (inserted_later _ _ _ within _ _ _ c.self.invariant before later)
