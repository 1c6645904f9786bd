use Rattle.std.proofs.Common.{refl}
use Rattle.turn_desk_world.specs.Runs.{IsRun}
use Rattle.turn_desk_world.proofs.progress.run_one.Goals as goal

pub returns-in-Ok : goal.returns-in-Ok
unfolding IsRun
returns-in-Ok c = (c.step.new.self, c.in-Ok.ensures.step, refl)
