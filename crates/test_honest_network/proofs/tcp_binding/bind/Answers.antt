use Rattle.test_honest_network.proofs.Going.{bound_on}
use Rattle.test_honest_network.proofs.tcp_binding.bind.Goals as goal

pub returns-in-Challenge : goal.returns-in-Challenge
returns-in-Challenge c = bound_on c.args.world.now c.replies.new.world c.bind_again.new.world _ c.from_nanos.ensures (rw c.in-Challenge.is at c.in_ok-turned.ensures) c.bind_again.result c.bind_again.ensures
