use Rattle.test_honest_network.proofs.Carrying.{sent_on}
use Rattle.test_honest_network.proofs.exchange.carry.Goals as goal

pub returns-in-Transmit : goal.returns-in-Transmit
returns-in-Transmit c = sent_on c.args.now c.args.decision c.args.world.now c.happen.new.world _ c.in-Transmit.sent (rw c.in-Transmit.is at c.in_ok-sent.ensures) c.deliver.result c.deliver.ensures
