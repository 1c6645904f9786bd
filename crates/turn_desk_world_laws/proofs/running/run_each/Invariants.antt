use Rattle.std.proofs.Common.{◌≡◌, length, take}
use Rattle.std.specs.List.{zip}
use Rattle.turn_desk_world.specs.Runs.{IsRun}
use Rattle.turn_desk_world_laws.proofs.running.run_each.Given as goal

-- The events so far have their results.
abbrev pub invariant-loop-event : goal.invariant-loop-event
invariant-loop-event l =
    (length l.answers.items ≡ length (take l.event-index l.events))
    × IsRun l.fn.world (zip (take l.event-index l.events) l.answers.items) l.world
