use Rattle.std.proofs.Common.{length}
use Rattle.line_io.specs.Cut.{lines_of}
use Rattle.turn_desk_world.proofs.WantedLemmas.{AreLinesCovered}
use Rattle.turn_desk_world.proofs.wanted.want_lines.Given as goal

-- The lines so far are covered.
abbrev pub invariant-lines : goal.invariant-lines
invariant-lines l = AreLinesCovered (lines_of l.text) l.flags (lines_of l.rest)

-- The text that is left gets shorter.
abbrev pub decreases-lines : goal.decreases-lines
decreases-lines l = length l.rest
