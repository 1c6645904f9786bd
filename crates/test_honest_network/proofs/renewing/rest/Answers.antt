use Rattle.test_honest_network.proofs.Passing.{rested_on}
use Rattle.test_honest_network.proofs.renewing.rest.Goals as goal

pub returns-then-branch : goal.returns-then-branch
returns-then-branch c =
    rested_on c.args.now c.args.due c.args.world.now c.takes.new.world c.takes-2.new.world c.draws_nothing.new.world c.wait.new.world c.in_ok-takes.ensures c.in_ok-takes-2.ensures
    (c.in_ok-draws_nothing.ensures c.if-branch.true) c.wait.result c.wait.ensures
