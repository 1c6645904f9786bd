use Rattle.line_io.proofs.CutLemmas.{feed_lines, no_feed_lines}
use Rattle.line_io.proofs.cut.cut_line.Goals as goal

pub returns-in-Some-clause-lines : goal.returns-in-Some-clause-lines
returns-in-Some-clause-lines c = feed_lines c.args.text.now c.in-Some.end c.in-Some.ensures

pub returns-in-None-clause-lines : goal.returns-in-None-clause-lines
returns-in-None-clause-lines c = no_feed_lines c.args.text.now c.in-None.ensures
