use Rattle.test_honest_network.proofs.Passing.{still_on}
use Rattle.test_honest_network.proofs.renewing.hold.Goals as goal

pub returns-then-branch : goal.returns-then-branch
returns-then-branch c = still_on c.args.now c.args.world.now c.wait.new.world c.shows.new.world (rw c.if-branch.true at c.in_ok-wait.ensures) c.shows.result c.shows.ensures
