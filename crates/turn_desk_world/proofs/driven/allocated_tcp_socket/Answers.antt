use Rattle.std.proofs.Common.{Option, Result, ◌≡◌, ℕ, ap, subst}
use Rattle.std.specs.declared.net.socket_addr.SocketAddr.{SocketAddr}
use Rattle.stun_types_base.specs.declared.transport.TransportType.{TransportType}
use Rattle.turn_client_proto_api.specs.declared.answer.Socket5Tuple.{Socket5Tuple}
use Rattle.turn_client_proto_api.specs.declared.error.TcpAllocateError.{TcpAllocateError}
use Rattle.turn_client_proto.specs.Clients.{stored_of}
use Rattle.turn_client_proto.specs.Recv.ClientState.{ClientState}
use Rattle.turn_client_proto.specs.SocketsReported.{IsSocketReported}
use Rattle.turn_desk_world.specs.Calls.{own_tuple}
use Rattle.turn_desk_world.proofs.driven.allocated_tcp_socket.Goals as goal

-- The call was made with the five-tuple of the client's own connection.
reported_of_own : (old : ClientState) (connection : ℕ) (transport : TransportType) (from to peer : SocketAddr) (here : Option SocketAddr) (now : ℕ) (answer : Result (Unit {0}) TcpAllocateError) (new : ClientState)
    → transport ≡ old.core.agent.transport → from ≡ old.core.agent.here → to ≡ old.core.server
    → IsSocketReported old connection (record { transport = transport; from = from; to = to }) peer here now answer new → IsSocketReported old connection (own_tuple old.core) peer here now answer new
reported_of_own old connection transport from to peer here now answer new same_transport same_from same_to is =
    let own : Socket5Tuple = own_tuple old.core in
    let reported : (s : Socket5Tuple) → Type 0 = λ s. IsSocketReported old connection s peer here now answer new in
    subst reported (ap (λ (t : TransportType). record { transport = t; from = own.from; to = own.to }) same_transport)
    (subst reported (ap (λ (f : SocketAddr). record { transport = transport; from = f; to = own.to }) same_from)
    (subst reported (ap (λ (t : SocketAddr). record { transport = transport; from = from; to = t }) same_to) is))

-- The call succeeded.
pub returns-in-Ok : goal.returns-in-Ok
returns-in-Ok c =
    let old = stored_of c.args.client.now in
    let new = stored_of c.allocated_tcp_socket.new.self in
    subst (λ (answer : Result (Unit {0}) TcpAllocateError). IsSocketReported old c.args.id (own_tuple old.core) c.args.peer c.args.local c.args.now answer new) c.in-Ok.is
    (reported_of_own old c.args.id c.transport.result c.local_addr.result c.remote_addr.result c.args.peer c.args.local c.args.now c.allocated_tcp_socket.result new c.transport.ensures c.local_addr.ensures c.remote_addr.ensures c.allocated_tcp_socket.ensures.reported)
