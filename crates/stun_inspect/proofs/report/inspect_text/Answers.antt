use Rattle.line_io.proofs.CutLemmas.{passes_last, passes_more}
use Rattle.stun_inspect.specs.InspectLines.{IsReadable}
use Rattle.stun_inspect.proofs.PrintLemmas.{ok_not_err, prints_on}
use Rattle.stun_inspect.proofs.report.inspect_text.Goals as goal

pub returns-in-Err-clause-printed : goal.returns-in-Err-clause-printed
returns-in-Err-clause-printed g c = λ unwritten. prints_on _ _ _ c.lines.invariant.0 (c.in-Err.ensures.printed unwritten)

pub returns-in_default-after-clause-printed : goal.returns-in_default-after-clause-printed
returns-in_default-after-clause-printed g c = λ written.
    prints_on _ _ _ c.lines.invariant.0 (c.in_default-inspect_line.ensures.printed (ok_not_err _ _))

pub returns-in_default-after-clause-read : goal.returns-in_default-after-clause-read
returns-in_default-after-clause-read g c =
    c.lines.invariant.1 (passes_last IsReadable c.lines.rest.now c.cut_line.result.0.now c.cut_line.result.1 c.cut_line.ensures.lines c.in_default-inspect_line.ensures.read c.in_default-after.is)

pub lines-preserved : goal.lines-preserved
lines-preserved g c = (
  prints_on _ _ _ c.lines.invariant.0 (c.in_default-inspect_line.ensures.printed (ok_not_err _ _)),
  λ rest. c.lines.invariant.1 (passes_more IsReadable c.lines.rest.now c.cut_line.result.0.now c.cut_line.result.1 c.cut_line.ensures.lines c.in_default-inspect_line.ensures.read c.in-Some.after c.in-Some.is rest),
)
