use Rattle.turn_desk_trace.proofs.LineLemmas.{line_bad, line_ok}
use Rattle.turn_desk_trace.proofs.line.read_line.Goals as goal

pub returns-clause-ok : goal.returns-clause-ok
returns-clause-ok c = line_ok c.args.answers.now c.args.line.now _ c.spell.result (rw (← c.as_slice.ensures.value) c.spell.ensures.ok) c.in_ok-words.ensures.ok

pub returns-clause-bad : goal.returns-clause-bad
returns-clause-bad c = λ bad read is_line. line_bad c.args.answers.now c.args.line.now _ read c.in_ok-words.ensures.ok (rw (← c.as_slice.ensures.value) (c.spell.ensures.bad bad read)) is_line
