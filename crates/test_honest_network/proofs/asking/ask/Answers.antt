use Rattle.test_honest_network.proofs.Bringing.{requested_on}
use Rattle.test_honest_network.proofs.asking.ask.Goals as goal

pub returns-then-branch-2 : goal.returns-then-branch-2
returns-then-branch-2 c = requested_on c.args.here c.args.server c.args.world.now c.send.new.world c.send.result c.args.what _ c.draws_nothing.new.world c.calls.new.world
    c.from_nanos-called.ensures (c.in_ok-draws_nothing.ensures c.if-branch.true) (c.in_ok-calls.ensures c.if-branch-2.true) c.send.ensures
