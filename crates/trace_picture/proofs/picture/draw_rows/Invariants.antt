use Rattle.std.proofs.Common.{List, ℕ, ◌++◌, length, string_bytes}
use Rattle.std.specs.Option.{option_copied}
use Rattle.line_io.specs.Cut.{lines_after, lines_of}
use Rattle.trace_picture.specs.Pictures.{AreTransmitted}
use Rattle.trace_picture.proofs.picture.draw_rows.Given as goal

-- What was drawn, followed by what is drawn for the remaining lines, is what is drawn for all lines.
abbrev pub invariant-lines : goal.invariant-lines
invariant-lines l = (more : List ℕ) → AreTransmitted (lines_of l.rest) (lines_after (option_copied l.left)) more
    → AreTransmitted (lines_of l.fn.text) (lines_of l.fn.answers) (string_bytes l.svg ++ more)

-- The text that is left gets shorter.
abbrev pub decreases-lines : goal.decreases-lines
decreases-lines l = length l.rest
