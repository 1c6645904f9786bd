use Rattle.test_driver.proofs.Parts.{event_on, events_on}
use Rattle.test_driver.proofs.driving.+poll_events.Goals as goal

pub returns-then-not-more : goal.returns-then-not-more
returns-then-not-more t c = event_on c.args.network.now c.reports-more.new.self c.args.world.now c.happen.new.world c.in_ok-polled.polled c.in_ok-polled.ensures c.reports-more.ensures

pub returns : goal.returns
returns t c = events_on c.args.network.now c.reports-more.new.self c.args.world.now c.happen.new.world c.poll_events.new.network c.poll_events.new.world c.in_ok-polled.polled c.in_ok-polled.ensures c.reports-more.ensures
    c.poll_events.result c.poll_events.ensures
