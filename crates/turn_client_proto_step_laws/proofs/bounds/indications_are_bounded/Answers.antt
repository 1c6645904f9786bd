use Rattle.turn_client_proto_step_laws.proofs.Limits.{offer_within}
use Rattle.turn_client_proto_step_laws.proofs.bounds.indications_are_bounded.Goals as goal

pub returns-clause-others : goal.returns-clause-others
returns-clause-others c = λ old new bytes handled taken. (offer_within old new bytes handled taken).others

pub returns-clause-waiting : goal.returns-clause-waiting
returns-clause-waiting c = λ old new bytes handled taken. (offer_within old new bytes handled taken).each
