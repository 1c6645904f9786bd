use Rattle.std.proofs.Common.{length}
use Rattle.std.specs.List.{AllByRecursion}
use Rattle.line_io.specs.Cut.{lines_of}
use Rattle.stun_inspect.specs.InspectLines.{IsReadable}
use Rattle.stun_inspect.specs.Printed.{PrintsText}
use Rattle.stun_inspect.proofs.report.inspect_text.Given as goal

-- The text can be read if the text that is left can.
abbrev pub invariant-lines : goal.invariant-lines
invariant-lines g l =
    PrintsText (g.O.Write.contents l.fn.output) (g.O.Write.contents l.output)
    × (AllByRecursion IsReadable (lines_of l.rest) → AllByRecursion IsReadable (lines_of l.text))

-- The text that is left gets shorter.
abbrev pub decreases-lines : goal.decreases-lines
decreases-lines g l = length l.rest
