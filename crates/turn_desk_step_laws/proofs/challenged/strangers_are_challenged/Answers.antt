use Rattle.turn_desk_step_laws.proofs.Strangers.{stranger_challenged}
use Rattle.turn_desk_step_laws.proofs.challenged.strangers_are_challenged.Goals as goal

pub returns : goal.returns
returns c = λ old new from bytes reply now stream decision served none unsigned is. stranger_challenged old new from bytes reply now stream served none unsigned decision is
