use Rattle.test_driver.proofs.Parts.{polled_on}
use Rattle.test_driver.proofs.driving.poll.Goals as goal

pub returns : goal.returns
returns c = polled_on c.args.network.now c.args.world.now c.happen.new.world c.poll_events.new.network c.poll_events.new.world c.in_ok-polled.polled c.ended_by-ended.result c.in_ok-polled.ensures c.in_ok-poll_events.ensures c.ended_by-ended.ensures
