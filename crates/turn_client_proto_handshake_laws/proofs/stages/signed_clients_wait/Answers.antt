use Rattle.std.proofs.Common.{[]}
use Rattle.turn_client_proto_handshake_laws.proofs.Signing.{signed_ends, signed_still, signed_waits, signing_again}
use Rattle.turn_client_proto_handshake_laws.proofs.stages.signed_clients_wait.Goals as goal

pub returns-clause-again : goal.returns-clause-again
returns-clause-again c = λ b choice many last old new now sent is due generated. signing_again b choice many last [] old is now sent new due generated

pub returns-clause-still : goal.returns-clause-still
returns-clause-still c = λ b choice many last old new now sent is quiet generated. signed_still b choice many last old is now sent new quiet generated

pub returns-clause-polled : goal.returns-clause-polled
returns-clause-polled c = λ b choice many last old new now ret is before polled. signed_waits b choice many last old is now ret new before polled

pub returns-clause-ends : goal.returns-clause-ends
returns-clause-ends c = λ b choice many last old new now ret is reached polled. signed_ends b choice many last old is now ret new reached polled
