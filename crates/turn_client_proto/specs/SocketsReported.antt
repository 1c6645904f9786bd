-- The effect and result of a call that reports a socket (RFC 6062, sections 4.3 and 4.6).
use Rattle.std.specs.Prelude.{◌≡◌, ℕ, Bool, false, Option, Some, None, Result, Ok, Err, if◌then◌else◌}
use Rattle.std.specs.declared.net.socket_addr.SocketAddr.{SocketAddr}
use Rattle.turn_client_proto_api.specs.declared.answer.Socket5Tuple.{Socket5Tuple}
use Rattle.turn_client_proto_api.specs.declared.error.TcpAllocateError.{TcpAllocateError}
use Rattle.turn_client_proto_recv.specs.Control.{Control, Datagrams, Open, Closed}
use Rattle.turn_client_proto_recv.specs.ClientState.{ClientState, Protocol}
use Rattle.turn_client_proto_allocation.specs.Same.{is_same_address}
use Rattle.turn_client_proto_recv.specs.Sockets.{IsSocketAnswered}

-- The call accepted a socket that has the own address of the client's connection to the server.
abbrev pub takes_place : Protocol → Option SocketAddr → Result (Unit {0}) TcpAllocateError → Bool
takes_place p here (Err error) = false
takes_place p None (Ok x) = false
takes_place p (Some here) (Ok x) = is_same_address here p.agent.here

-- Then the stream of that connection ends, because what arrives at the address belongs to the new socket.
abbrev pub replaced : Control → Control
replaced Datagrams = Datagrams
replaced (Open stream) = Closed
replaced Closed = Closed

-- A call that reports a socket turns the state `old` into `new` and returns `answer`.
pub record IsSocketReported (old : ClientState) (connection : ℕ) (s : Socket5Tuple) (peer : SocketAddr)
    (here : Option SocketAddr) (now : ℕ) (answer : Result (Unit {0}) TcpAllocateError) (new : ClientState) : Type 0 where
  pub core : IsSocketAnswered old.core connection s peer here now answer new.core
  pub control : new.control ≡ (if takes_place old.core here answer then replaced old.control else old.control)
