use Rattle.turn_client_proto_recv.specs.Notes.{Start}
use Rattle.turn_client_proto.proofs.udp.TurnClientUdpTurnClientApi.recv.Goals as goal

pub returns-then-not-is_of_server-clause-noted : goal.returns-then-not-is_of_server-clause-noted
returns-then-not-is_of_server-clause-noted g c = Start
