use Rattle.turn_client_proto_messages.proofs.Claims.{list_law}
use Rattle.turn_client_proto_messages.proofs.Readable.{fresh_readable, stay_readable}
use Rattle.turn_client_proto_messages.proofs.laws.texts_stay_read.Goals as goal

pub returns-clause-stay : goal.returns-clause-stay
returns-clause-stay c = λ old new bytes result outcome own. stay_readable old new bytes result outcome own

pub returns-clause-fresh : goal.returns-clause-fresh
returns-clause-fresh c = λ client none no_next reads. fresh_readable client none no_next reads

pub returns-clause-known : goal.returns-clause-known
returns-clause-known c = λ client standing reads soft occurs. list_law client standing reads soft occurs
