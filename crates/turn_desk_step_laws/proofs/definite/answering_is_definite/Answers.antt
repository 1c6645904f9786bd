use Rattle.turn_desk_step_laws.proofs.Answering.{answer_same}
use Rattle.turn_desk_step_laws.proofs.definite.answering_is_definite.Goals as goal

pub returns : goal.returns
returns c = λ old one other from bytes reply again now stream decision names_one a b. answer_same old from bytes now stream names_one decision reply again one other a b
