use Rattle.turn_client_proto_handshake_laws.proofs.Unserved.{asking_unserved, ended_unserved, fresh_unserved, holding_none_raw, none_raw, signing_unserved}
use Rattle.turn_client_proto_handshake_laws.proofs.stages.stages_are_unserved.Goals as goal

pub returns-clause-fresh : goal.returns-clause-fresh
returns-clause-fresh c = λ b p is. fresh_unserved b p is

pub returns-clause-asking : goal.returns-clause-asking
returns-clause-asking c = λ b many last p is. asking_unserved b many last p is

pub returns-clause-signing : goal.returns-clause-signing
returns-clause-signing c = λ b choice many last queue p is. signing_unserved b choice many last queue p is

pub returns-clause-ended : goal.returns-clause-ended
returns-clause-ended c = λ b events p is. ended_unserved b events p is

pub returns-clause-none_waits : goal.returns-clause-none_waits
returns-clause-none_waits c = λ b p is. none_raw b p is

pub returns-clause-held : goal.returns-clause-held
returns-clause-held c = λ b choice address lifetime now last queue events p is. holding_none_raw b choice address lifetime now last queue events p is
