use Rattle.turn_desk_core.proofs.Alike.{answered_alike}
use Rattle.turn_desk_core.proofs.laws.desks_answer_alike.Goals as goal

pub returns : goal.returns
returns c = λ a b new from bytes reply now stream decision same is.
    answered_alike a b from bytes now stream decision reply new same is
