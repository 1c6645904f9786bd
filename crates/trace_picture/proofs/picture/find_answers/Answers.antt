use Rattle.std.proofs.Common.{List, ℕ, refl}
use Rattle.line_io.specs.Cut.{lines_of}
use Rattle.trace_picture.proofs.Rows.{lines_cut, parts_here, parts_there}
use Rattle.trace_picture.proofs.picture.find_answers.Goals as goal

pub returns-then-is_parting : goal.returns-then-is_parting
returns-then-is_parting c =
    let line = c.cut_line.result.0.now in
    c.lines.invariant (lines_of c.in-Some.after.now)
    (parts_here c.lines.rest.now line (lines_of c.in-Some.after.now) (lines_cut c.lines.rest.now line c.cut_line.result.1 c.in-Some.after c.cut_line.ensures.lines c.in-Some.is) (c.if-is_parting.ensures.yes refl))

pub lines-preserved : goal.lines-preserved
lines-preserved c = λ (following : List (List ℕ)) parted.
    let line = c.cut_line.result.0.now in
    c.lines.invariant following
    (parts_there c.lines.rest.now line (lines_of c.in-Some.after.now) following (lines_cut c.lines.rest.now line c.cut_line.result.1 c.in-Some.after c.cut_line.ensures.lines c.in-Some.is) (c.if-is_parting.ensures.no refl) parted)
