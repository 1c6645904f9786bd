use Rattle.test_honest_network.proofs.Going.{opened_on, so}
use Rattle.test_honest_network.proofs.tcp_binding.open.Goals as goal

pub returns : goal.returns
returns c = opened_on c.args.peer c.args.local c.args.world.now c.takes.new.world c.takes-2.new.world c.polls.new.world c.calls.new.world c.args.now c.in_ok-takes.ensures c.in_ok-takes-2.ensures
    (so c.in_ok-polls.field-0 c.if-not-branch.false c.in_ok-polls.ensures) c.calls.result c.calls.ensures
