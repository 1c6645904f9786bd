use Rattle.test_honest_network.proofs.Shaking.{first_unanswered, first_unsent, gone_on}
use Rattle.test_honest_network.proofs.simulation.shake.Goals as goal

pub returns-in-Unsent : goal.returns-in-Unsent
returns-in-Unsent c = λ plan fresh made second asks whole.
    first_unsent c.honest_runs_allocate.ensures.promised c.honest_runs_allocate.ensures.occurs c.honest_runs_are_unforged.ensures.unforged plan c.args.world.now fresh c.args.address c.args.made made c.carry.new.world (rw c.in-Unsent.is at c.in_ok-carry.ensures)

pub returns-in-Unanswered : goal.returns-in-Unanswered
returns-in-Unanswered c = λ plan fresh made second asks whole.
    first_unanswered c.honest_runs_allocate.ensures.promised c.honest_runs_allocate.ensures.occurs c.honest_runs_are_unforged.ensures.unforged plan c.args.world.now fresh c.args.address c.args.made made _ c.carry.new.world (rw c.in-Unanswered.is at c.in_ok-carry.ensures)

pub returns-in-Replied : goal.returns-in-Replied
returns-in-Replied c = λ plan fresh made second asks whole.
    gone_on c.honest_runs_allocate.ensures.promised c.honest_runs_allocate.ensures.occurs c.honest_runs_are_unforged.ensures.unforged plan c.args.world.now fresh c.args.address c.args.made made _ c.args.second second asks whole c.carry.new.world _
    (rw c.in-Replied.is at c.in_ok-carry.ensures) c.go_on.result c.go_on.ensures
