use Rattle.test_honest_network.proofs.Bringing.{sent_on}
use Rattle.test_honest_network.proofs.asking.send.Goals as goal

pub returns-in-Transmit : goal.returns-in-Transmit
returns-in-Transmit c = sent_on c.args.here c.args.server c.args.world.now c.bring.new.world c.bring.result c.in-Transmit.sent _ c.happen.new.world c.from_nanos.ensures (rw c.in-Transmit.is at c.in_ok-sent.ensures) c.bring.ensures
