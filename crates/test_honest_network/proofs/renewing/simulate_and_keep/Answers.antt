use Rattle.std.proofs.Common.{inr, sym, ◌∙◌}
use Rattle.test_honest_network.proofs.Driving.{gone_by}
use Rattle.test_honest_network.proofs.renewing.simulate_and_keep.Goals as goal

pub returns-in-Allocated : goal.returns-in-Allocated
returns-in-Allocated c = λ plan fresh made second asks whole.
    gone_by c.renewed_in_time.ensures.promised plan c.args.address c.args.world.now fresh second c.shake.new.world c.wait_and_renew.new.world
    (rw c.in-Allocated.is at (c.in_ok-shake.ensures plan fresh made (second ∙ sym c.from_nanos-second.ensures) asks whole)) c.wait_and_renew.result c.wait_and_renew.ensures

pub returns-in-CannotAgree : goal.returns-in-CannotAgree
returns-in-CannotAgree c = λ plan fresh made second asks whole.
    (c.shake.new.world, inr (rw c.in-CannotAgree.is at (c.in_ok-shake.ensures plan fresh made (second ∙ sym c.from_nanos-second.ensures) asks whole)))
