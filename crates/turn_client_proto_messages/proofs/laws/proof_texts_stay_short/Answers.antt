use Rattle.turn_client_proto_messages.proofs.Short.{fresh_short, stay_short}
use Rattle.turn_client_proto_messages.proofs.laws.proof_texts_stay_short.Goals as goal

pub returns-clause-stay : goal.returns-clause-stay
returns-clause-stay c = λ old new bytes result outcome own. stay_short old new bytes result outcome own

pub returns-clause-fresh : goal.returns-clause-fresh
returns-clause-fresh c = λ client none no_next plain short. fresh_short client none no_next plain short
