use Rattle.test_driver.proofs.Parts.{taken_on, transmitted}
use Rattle.test_driver.proofs.driving.take_turn.Goals as goal

pub returns-in-Transmit : goal.returns-in-Transmit
returns-in-Transmit c = transmitted c.args.network.now c.args.world.now c.happen.new.world c.in-Transmit.sent (rw c.in-Transmit.is at c.in_ok-sent.ensures)

pub returns : goal.returns
returns c = taken_on c.args.network.now c.args.world.now c.happen.new.world c.poll.new.network c.poll.new.world c.in_ok-sent.field-0 c.in_ok-sent.ensures c.in_default.not-Transmit c.poll.result c.poll.ensures
