use Rattle.std.proofs.Common.{rules, arith, ◌≡◌, ◌<◌, ◌≤◌, length, get_or, inl, inr}
use Rattle.std.proofs.lemmas.List.{get_or_default}
use Rattle.stun_types_message.specs.Base.Times.{greatest_time}
use Rattle.stun_proto_transaction.proofs.Bounds.{all_later, passed_later, passed_lower}
use Rattle.stun_proto_transaction.proofs.times.Times.first_until.Goals.{then-as_nanos+else-le-2, else-as_nanos}
use Rattle.stun_proto_transaction.proofs.times.Times.first_until.Goals as goal

pub loop-self-preserved : goal.loop-self-preserved
loop-self-preserved c =
    let before = c.loop-self.self-inside in
    let time = c.index.result.now in
    let within : before.passed < length before.times.items = search rules in
    let read = get_or_default before.times.items before.passed time 0 within in
    let reported = c.index.ensures in
    let is : get_or before.times.items before.passed 0 ≡ time = omega (arith, read, reported) in
    let stored = c.loop-self.invariant.0 in
    let same = c.loop-self.invariant.1 in
    let later = c.loop-self.invariant.2 in
    elim c.if-as_nanos.branch [
      | then-as_nanos+else-le-2 w ↦
          let lower : time ≤ before.least = search rules in
          let ahead : c.args.now < time = search rules in
          rw w.self-inside-is (passed_lower _ _ within _ _ _ stored is lower, same, all_later _ _ within _ _ later is ahead, inl ahead)
      | else-as_nanos w ↦
          let higher : before.least < time = search rules in
          let ahead : c.args.now < time = elim c.loop-self.invariant.3 [
            | inl less ↦ omega (arith, less, higher)
            | inr most ↦ absurd (let fits : time ≤ greatest_time = search rules in omega (arith, most, higher, fits))
          ] in
          rw w.self-inside-is (passed_later _ _ within _ _ _ stored is higher, same, all_later _ _ within _ _ later is ahead, c.loop-self.invariant.3)
    ]
