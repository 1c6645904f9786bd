use Rattle.turn_client_proto_handshake_laws.proofs.Asking.{asking_again, asking_ends, asking_still, asking_waits}
use Rattle.turn_client_proto_handshake_laws.proofs.Only.{due_or_quiet}
use Rattle.turn_client_proto_handshake_laws.proofs.stages.asking_clients_wait.Goals as goal

pub returns-clause-again : goal.returns-clause-again
returns-clause-again c = λ b many last old new now sent is due generated. asking_again b many last old is now sent new due generated

pub returns-clause-still : goal.returns-clause-still
returns-clause-still c = λ b many last old new now sent is quiet generated. asking_still b many last old is now sent new quiet generated

pub returns-clause-polled : goal.returns-clause-polled
returns-clause-polled c = λ b many last old new now ret is before polled. asking_waits b many last old is now ret new before polled

pub returns-clause-ends : goal.returns-clause-ends
returns-clause-ends c = λ b many last old new now ret is reached polled. asking_ends b many last old is now ret new reached polled

pub returns-clause-cases : goal.returns-clause-cases
returns-clause-cases c = λ b a many now. due_or_quiet b a many now
