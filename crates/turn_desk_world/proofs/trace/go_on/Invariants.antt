use Rattle.std.proofs.Common.{length}
use Rattle.std.specs.Prelude.{◌+◌, ◌≤◌}
use Rattle.line_io.specs.Cut.{lines_of}
use Rattle.turn_desk_world.specs.Progress.{progress_of}
use Rattle.turn_desk_world.proofs.KeepingLemmas.{IsActiveStored}
use Rattle.turn_desk_world.proofs.trace.go_on.Given as goal

-- The lines that are left complete what was printed, and the number of lines is bounded by the bytes that
-- were passed.
abbrev pub invariant-lines : goal.invariant-lines
invariant-lines g l =
    IsActiveStored l.wanted (lines_of l.trace) (g.O.Write.contents l.fn.output) (g.O.Write.contents l.output) (progress_of l.progress) l.number (lines_of l.rest)
    × (l.number + length l.rest ≤ length l.trace + 1)

-- The text that is left gets shorter.
abbrev pub decreases-lines : goal.decreases-lines
decreases-lines g l = length l.rest
