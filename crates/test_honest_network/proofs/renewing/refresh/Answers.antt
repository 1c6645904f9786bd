use Rattle.test_honest_network.proofs.Passing.{refreshed_on}
use Rattle.test_honest_network.proofs.renewing.refresh.Goals as goal

pub returns-in-Transmit : goal.returns-in-Transmit
returns-in-Transmit c = refreshed_on c.args.now c.args.world.now c.happen.new.world _ c.in-Transmit.sent (rw c.in-Transmit.is at c.in_ok-sent.ensures) c.grant.result c.grant.ensures
