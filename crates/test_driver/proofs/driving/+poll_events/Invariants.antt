use Rattle.test_driver.proofs.driving.+poll_events.Given as goal

abbrev pub decreases-poll_events : goal.decreases-poll_events
decreases-poll_events l = l.most
