use Rattle.test_honest_network.proofs.Going.{gone_on, so}
use Rattle.test_honest_network.proofs.tcp_binding.go.Goals as goal

pub returns : goal.returns
returns c = gone_on c.args.peer c.args.local c.args.world.now c.ask.new.world c.ask-2.new.world c.open.new.world c.bind.new.world _ _ _ c.ip.ensures c.from_nanos-requested.ensures c.from_nanos-made.ensures
    (so c.in_ok-ask.field-0 c.if-not-branch.false c.in_ok-ask.ensures) (so c.in_ok-ask-2.field-0 c.if-not-branch-2.false c.in_ok-ask-2.ensures) (so c.in_ok-open.field-0 c.if-not-branch-3.false c.in_ok-open.ensures)
    c.bind.result c.bind.ensures
