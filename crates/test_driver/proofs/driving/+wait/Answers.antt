use Rattle.test_driver.proofs.Parts.{lost, stopped, to_any, waited, waits_on}
use Rattle.test_driver.proofs.driving.+wait.Goals as goal

pub returns-then-turns-eq0 : goal.returns-then-turns-eq0
returns-then-turns-eq0 t c = stopped c.args.until c.args.network.now c.args.world.now c.record.new.self c.drive.new.world
    (lost c.args.until c.args.network.now c.args.world.now c.in-Transmits.sent c.drive.new.network c.drive.new.world c.record.new.self (rw c.in-Transmits.is at c.in_ok-sent.ensures) c.record.ensures)

pub returns-in-Transmits : goal.returns-in-Transmits
returns-in-Transmits t c = waits_on c.args.until c.args.network.now c.args.world.now c.record.new.self c.drive.new.world c.wait.new.network c.wait.new.world
    (lost c.args.until c.args.network.now c.args.world.now c.in-Transmits.sent c.drive.new.network c.drive.new.world c.record.new.self (rw c.in-Transmits.is at c.in_ok-sent.ensures) c.record.ensures) c.wait.result c.wait.ensures

pub returns-in-Waits : goal.returns-in-Waits
returns-in-Waits t c = waited c.args.until c.args.network.now c.args.world.now c.drive.new.network c.drive.new.world (rw c.in-Waits.is at c.in_ok-sent.ensures)

pub returns-in-Connects : goal.returns-in-Connects
returns-in-Connects t c = stopped c.args.until c.args.network.now c.args.world.now c.drive.new.network c.drive.new.world (to_any c.args.until c.args.network.now c.args.world.now c.drive.new.network c.drive.new.world (rw c.in-Connects.is at c.in_ok-sent.ensures))

pub returns : goal.returns
returns t c = stopped c.args.until c.args.network.now c.args.world.now c.drive.new.network c.drive.new.world (to_any c.args.until c.args.network.now c.args.world.now c.drive.new.network c.drive.new.world (rw c.in-Ends.is at c.in_ok-sent.ensures))
