use Rattle.test_honest_network.proofs.Going.{so}
use Rattle.test_honest_network.proofs.tcp_binding.ask.Goals as goal

pub returns-in-Success : goal.returns-in-Success
returns-in-Success c = λ yes. record { middle = c.calls.new.world; one = so c.in_ok-calls.field-0 c.if-not-branch.false c.in_ok-calls.ensures; other = rw c.in-Success.is at c.in_ok-replies.ensures }
