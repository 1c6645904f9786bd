use Rattle.turn_client_proto_handshake_laws.proofs.Ended.{ended_answers, ended_deaf, ended_still, ended_reports}
use Rattle.turn_client_proto_handshake_laws.proofs.stages.ended_clients_rest.Goals as goal

pub returns-clause-transmitted : goal.returns-clause-transmitted
returns-clause-transmitted c = λ b events old new now sent is generated. ended_still b events old is now sent new generated

pub returns-clause-polled : goal.returns-clause-polled
returns-clause-polled c = λ b events old new now ret is polled. ended_answers b events old is now ret new polled

pub returns-clause-processed : goal.returns-clause-processed
returns-clause-processed c = λ b events old new bytes now handled is processed. ended_deaf b events old is bytes now handled new processed

pub returns-clause-reported : goal.returns-clause-reported
returns-clause-reported c = λ b events old new event is taken. ended_reports b events old is event new taken
