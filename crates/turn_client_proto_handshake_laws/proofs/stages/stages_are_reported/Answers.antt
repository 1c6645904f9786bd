use Rattle.turn_client_proto_handshake_laws.proofs.Reported.{holding_reports, silent}
use Rattle.turn_client_proto_handshake_laws.proofs.stages.stages_are_reported.Goals as goal

pub returns-clause-fresh : goal.returns-clause-fresh
returns-clause-fresh c = λ b old new event is taken. silent old new event is.events taken

pub returns-clause-asking : goal.returns-clause-asking
returns-clause-asking c = λ b many last old new event is taken. silent old new event is.events taken

pub returns-clause-signing : goal.returns-clause-signing
returns-clause-signing c = λ b choice many last queue old new event is taken. silent old new event is.events taken

pub returns-clause-held : goal.returns-clause-held
returns-clause-held c = λ b choice address lifetime now last queue events old new event is taken. holding_reports b choice address lifetime now last queue events old is event new taken
