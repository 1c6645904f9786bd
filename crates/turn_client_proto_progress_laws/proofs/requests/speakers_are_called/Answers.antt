use Rattle.turn_client_proto_progress_laws.proofs.Asking.Others.{close_speaks, connect_speaks, delete_speaks, end_speaks, send_speaks, socket_speaks}
use Rattle.turn_client_proto_progress_laws.proofs.requests.speakers_are_called.Goals as goal

pub returns-clause-deleted : goal.returns-clause-deleted
returns-clause-deleted c = λ b realm address old new now ret is ample r. delete_speaks b realm address old is now ret new ample r

pub returns-clause-connected : goal.returns-clause-connected
returns-clause-connected c = λ b realm address old new peer now ret is ample r. connect_speaks b realm address old is peer now ret new ample r

pub returns-clause-sent : goal.returns-clause-sent
returns-clause-sent c = λ b realm address old new transport to bytes now ret is r. send_speaks b realm address old is transport to bytes now ret new r

pub returns-clause-closed : goal.returns-clause-closed
returns-clause-closed c = λ b realm address here there p is. close_speaks b realm address p is here there

pub returns-clause-socket : goal.returns-clause-socket
returns-clause-socket c = λ b realm address old new connection socket peer here now ret is ample r. socket_speaks b realm address old is connection socket peer here now ret new ample r

pub returns-clause-ended : goal.returns-clause-ended
returns-clause-ended c = λ b realm address p is. end_speaks b realm address p is
