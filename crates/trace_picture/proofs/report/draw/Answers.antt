use Rattle.trace_picture.proofs.PrintLemmas.{ended}
use Rattle.trace_picture.proofs.report.draw.Goals as goal

pub returns-in-Err-clause-printed : goal.returns-in-Err-clause-printed
returns-in-Err-clause-printed g c =
    ended c.in-Err.stop c.print_stop.result _ _ _ _ _ c.in-Err.ensures.stored c.print_stop.ensures.status c.print_stop.ensures.printed
