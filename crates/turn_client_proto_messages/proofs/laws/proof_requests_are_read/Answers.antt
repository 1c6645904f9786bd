use Rattle.turn_client_proto_messages.proofs.Reading.{message_law, number_law, request_law, request_read, reported_law}
use Rattle.turn_client_proto_messages.proofs.Signed.{valid_law}
use Rattle.turn_client_proto_messages.proofs.laws.proof_requests_are_read.Goals as goal

pub returns-clause-message : goal.returns-clause-message
returns-clause-message c = λ client request number short lawful n. message_law client request number short lawful n

pub returns-clause-request : goal.returns-clause-request
returns-clause-request c = λ client request number. request_law client request number

pub returns-clause-number : goal.returns-clause-number
returns-clause-number c = λ client request number short lawful n. number_law client request number short lawful n

pub returns-clause-reported : goal.returns-clause-reported
returns-clause-reported c = λ client request number short lawful n read. reported_law client request number short lawful n read

pub returns-clause-read : goal.returns-clause-read
returns-clause-read c = λ client request number short lawful n. request_read client request number short lawful n

pub returns-clause-valid : goal.returns-clause-valid
returns-clause-valid c = λ client request number standing short lawful n signed occurs. valid_law client request number standing short lawful n signed occurs
