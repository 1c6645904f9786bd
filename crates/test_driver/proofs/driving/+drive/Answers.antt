use Rattle.std.proofs.Common.{◌≤◌, arith}
use Rattle.std.proofs.lemmas.Grind.{common_steps}
use Rattle.test_driver.proofs.Parts.{advanced, driven_to_on, on_ok, rested, taken_to}
use Rattle.test_driver.specs.Driving.{IsDrivenTo}
use Rattle.test_driver.proofs.driving.+drive.Goals as goal

pub returns-then-le : goal.returns-then-le
returns-then-le t c =
    let late : c.args.until ≤ c.in-Waits.time = grind (arith, common_steps, c.le.ensures, c.if-le.true) in
    rested c.args.network.now c.args.world.now c.take_turn.new.network c.take_turn.new.world c.advance.new.self c.in-Waits.time c.args.until (rw c.in-Waits.is at c.in_ok-other.ensures) c.advance.ensures.time c.advance.ensures.alike late

pub returns-then-turns-eq0 : goal.returns-then-turns-eq0
returns-then-turns-eq0 t c = advanced c.args.network.now c.args.world.now c.take_turn.new.network c.take_turn.new.world c.advance.new.self c.in-Waits.time c.args.until (rw c.in-Waits.is at c.in_ok-other.ensures) c.advance.ensures.time c.advance.ensures.alike

pub returns-else-turns-eq0 : goal.returns-else-turns-eq0
returns-else-turns-eq0 t c =
    let first = advanced c.args.network.now c.args.world.now c.take_turn.new.network c.take_turn.new.world c.advance.new.self c.in-Waits.time c.args.until (rw c.in-Waits.is at c.in_ok-other.ensures) c.advance.ensures.time c.advance.ensures.alike in
    on_ok (λ turn. IsDrivenTo c.args.until c.advance.new.self c.take_turn.new.world turn c.drive.new.network c.drive.new.world) _
    (λ turn is. driven_to_on c.args.until c.args.network.now c.args.world.now c.advance.new.self c.take_turn.new.world first turn c.drive.new.network c.drive.new.world is) c.drive.result c.drive.ensures

pub returns-in_default : goal.returns-in_default
returns-in_default t c = taken_to c.args.until c.args.network.now c.args.world.now c.take_turn.new.network c.take_turn.new.world c.in_ok-other.other c.in_default.not-Waits c.in_ok-other.ensures
