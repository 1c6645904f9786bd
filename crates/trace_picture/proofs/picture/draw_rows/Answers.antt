use Rattle.std.proofs.Common.{ℕ, List, refl, string_bytes}
use Rattle.std.specs.Option.{option_copied}
use Rattle.line_io.specs.Cut.{lines_after, lines_of}
use Rattle.trace_picture.specs.Pictures.{AreTransmitted}
use Rattle.trace_picture.proofs.Rows.{transmitted_all, transmitted_on, lines_cut}
use Rattle.trace_picture.proofs.picture.draw_rows.Goals as goal

pub returns-then-is_over : goal.returns-then-is_over
returns-then-is_over c =
    transmitted_all c.lines.rest.now c.cut_line.result.0.now (lines_of c.in-Some.after.now) (lines_after (option_copied c.lines.left))
    (AreTransmitted (lines_of c.args.text.now) (lines_of c.args.answers.now)) (string_bytes c.lines.svg)
    (lines_cut c.lines.rest.now c.cut_line.result.0.now c.cut_line.result.1 c.in-Some.after c.cut_line.ensures.lines c.in-Some.is)
    (c.if-is_parting.ensures.yes refl) (c.if-is_over.ensures refl) c.lines.invariant

pub lines-preserved : goal.lines-preserved
lines-preserved c = λ (more : List ℕ) following.
    transmitted_on c.lines.rest.now c.cut_line.result.0.now (lines_of c.in-Some.after.now) (lines_after (option_copied c.lines.left)) (lines_after (option_copied c.in-Ok.following))
    (AreTransmitted (lines_of c.args.text.now) (lines_of c.args.answers.now)) (string_bytes c.lines.svg) (string_bytes c.draw_line.new.svg) more
    (lines_cut c.lines.rest.now c.cut_line.result.0.now c.cut_line.result.1 c.in-Some.after c.cut_line.ensures.lines c.in-Some.is)
    c.in-Ok.ensures c.lines.invariant following
