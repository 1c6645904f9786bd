use Rattle.std.proofs.Common.{◌∙◌}
use Rattle.test_driver.proofs.Deliveries.{brought_on, not_forged, still_on}
use Rattle.test_driver.proofs.Parts.{alike_on}
use Rattle.test_driver.proofs.carrying.bring.Goals as goal

pub returns-in-Reply : goal.returns-in-Reply
returns-in-Reply c = λ none.
    let still = still_on c.args.network.now c.record.new.self c.seed-seed.new.self c.in_ok-record.ensures c.seed-seed.ensures in
    brought_on c.args.decision c.args.sent.now c.args.network.now c.seed-seed.new.self c.args.world.now _ c.in_ok-wait.field-0 c.wait.new.network c.wait.new.world still c.after-arrival.ensures c.in_ok-wait.ensures c.if-not-branch.false
    c.in_ok-from_slice.field-0 c.in-Reply.bytes c.as_slice-in-Reply.result.now _ _ c.happen.new.world (c.in_ok-from_slice.ensures.items ∙ c.as_slice.ensures) c.after.ensures (rw c.in-Reply.is at c.in_ok-bytes.ensures) c.as_slice-in-Reply.ensures.value
    c.give.new.network c.give.new.world c.give.result
    (c.give.ensures (not_forged c.args.network.now c.wait.new.network none (alike_on c.args.network.now c.seed-seed.new.self c.wait.new.network still.alike c.in_ok-wait.ensures.drives.alike)))
