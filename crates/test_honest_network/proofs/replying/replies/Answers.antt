use Rattle.test_honest_network.proofs.Replied.{sent_on}
use Rattle.test_honest_network.proofs.replying.replies.Goals as goal

pub returns-in-Transmit : goal.returns-in-Transmit
returns-in-Transmit c = sent_on c.args.now c.args.decision c.args.world.now c.bring.new.world c.in-Transmit.sent c.happen.new.world (rw c.in-Transmit.is at c.in_ok-sent.ensures) c.bring.result c.bring.ensures
