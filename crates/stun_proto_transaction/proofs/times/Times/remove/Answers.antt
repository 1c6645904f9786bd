use Rattle.std.proofs.Common.{rules, arith, ◌<◌, length, inl}
use Rattle.std.proofs.lemmas.List.{get_or_default}
use Rattle.stun_proto_transaction.proofs.Bounds.{removed_later}
use Rattle.stun_proto_transaction.proofs.times.Times.remove.Goals as goal

pub invariant_of-self-else-le : goal.invariant_of-self-else-le
invariant_of-self-else-le c =
    let within : c.args.position < length c.self.inside.times.items = search rules in
    let before : c.args.position < c.self.inside.passed = search rules in
    let read = get_or_default c.self.inside.times.items c.args.position c.remove-old.result 0 within in
    let later : c.self.inside.least < c.remove-old.result = search rules in
    let value = c.remove-old.ensures.value in
    rw c.remove-old.ensures.items (removed_later _ _ within _ _ _ c.self.invariant before (inl (omega (arith, read, value, later))))
