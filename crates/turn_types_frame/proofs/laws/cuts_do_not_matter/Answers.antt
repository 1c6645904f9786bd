use Rattle.turn_types_frame.proofs.Feeding.{cut_anywhere, one_look}
use Rattle.turn_types_frame.proofs.laws.cuts_do_not_matter.Goals as goal

pub returns-clause-cut : goal.returns-clause-cut
returns-clause-cut c = cut_anywhere

pub returns-clause-step : goal.returns-clause-step
returns-clause-step c = one_look
