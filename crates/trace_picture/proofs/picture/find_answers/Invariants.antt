use Rattle.std.proofs.Common.{List, ℕ, length}
use Rattle.line_io.specs.Cut.{lines_of}
use Rattle.trace_picture.specs.Pictures.{Parted}
use Rattle.trace_picture.proofs.picture.find_answers.Given as goal

-- A separator of the text that is left separates the whole text.
abbrev pub invariant-lines : goal.invariant-lines
invariant-lines l = (following : List (List ℕ)) → Parted (lines_of l.rest) following → Parted (lines_of l.text) following

-- The text that is left gets shorter.
abbrev pub decreases-lines : goal.decreases-lines
decreases-lines l = length l.rest
