use Rattle.test_honest_network.proofs.Passing.{course_of, so}
use Rattle.test_honest_network.proofs.renewing.wait_and_renew.Goals as goal

pub returns-then-branch : goal.returns-then-branch
returns-then-branch c =
    course_of _ _ _ c.args.world.now c.rest.new.world c.refresh.new.world c.hold.new.world c.from_nanos-second.ensures c.from_nanos-due.ensures c.from_nanos.ensures
    (so c.in_ok-rest.field-0 c.if-not-branch.false c.in_ok-rest.ensures) (so c.in_ok-refresh.field-0 c.if-not-branch-2.false c.in_ok-refresh.ensures) (so c.in_ok-hold.field-0 c.if-branch.true c.in_ok-hold.ensures)
