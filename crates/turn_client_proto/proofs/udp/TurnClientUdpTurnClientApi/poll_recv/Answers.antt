use Rattle.turn_client_proto_recv.specs.Notes.{Start}
use Rattle.turn_client_proto.proofs.udp.TurnClientUdpTurnClientApi.poll_recv.Goals as goal

pub returns-clause-noted : goal.returns-clause-noted
returns-clause-noted c = Start
