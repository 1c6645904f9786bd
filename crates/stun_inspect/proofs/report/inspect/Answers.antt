use Rattle.stun_inspect.specs.Printed.{last_text}
use Rattle.stun_inspect.proofs.PrintLemmas.{ended}
use Rattle.stun_inspect.proofs.report.inspect.Goals as goal

pub returns-in-Err-clause-printed : goal.returns-in-Err-clause-printed
returns-in-Err-clause-printed g c =
    ended (last_text c.args.form) c.in-Err.stop c.print_last.result _ _ _ c.in-Err.ensures.printed c.print_last.ensures.status c.print_last.ensures.printed
