use Rattle.test_driver.proofs.driving.+drive.Given as goal

abbrev pub decreases-drive : goal.decreases-drive
decreases-drive l = l.turns
