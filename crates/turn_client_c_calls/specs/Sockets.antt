-- What C reports of the sockets of connections (RFC 6062, sections 4.3 and 4.6).
use Rattle.std.specs.Prelude.{◌≡◌, true, Result, Ok, Err}
use Rattle.std.specs.declared.net.socket_addr.SocketAddr.{SocketAddr}
use Rattle.turn_client_proto_api.specs.declared.answer.Socket5Tuple.{Socket5Tuple}
use Rattle.turn_client_proto.specs.Clients.{stored_of}
use Rattle.turn_client_proto.specs.Recv.Closing.{after_close, is_joined}
use Rattle.turn_client_proto.specs.Recv.ClientState.{ClientState, Leaves}
use Rattle.turn_client_proto.specs.declared.client.TurnClient.{TurnClient}

-- The client's own connection to the server.
abbrev pub own_tuple : TurnClient → Socket5Tuple
own_tuple client = record {
  transport = (stored_of client).core.agent.transport;
  from = (stored_of client).core.agent.here;
  to = (stored_of client).core.server;
}

-- The effect and result of `tcp_closed`.
abbrev pub IsClosedReported : (here server : SocketAddr) → Result (Unit {0}) (Unit {0}) → ClientState → ClientState → Type 0
IsClosedReported here server (Ok x) old new = Leaves (λ old new. new ≡ after_close here server old) old new
IsClosedReported here server (Err x) old new = (new ≡ old) × (is_joined here server old.core ≡ true)
