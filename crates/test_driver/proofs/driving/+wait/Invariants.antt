use Rattle.test_driver.proofs.driving.+wait.Given as goal

abbrev pub decreases-wait : goal.decreases-wait
decreases-wait l = l.turns
