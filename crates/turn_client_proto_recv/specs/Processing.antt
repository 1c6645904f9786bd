-- Messages on the socket of a connection that is being bound (RFC 6062, section 4.3).
use Rattle.std.specs.Prelude.{◌≡◌, ℕ, ◌==◌, Bool, true, false, is_some, ◌&&◌, List, [], ◌∷◌, ◌++◌, map, Option, Some, None, option_and_then, option_map, Result, Ok, Err}
use Rattle.std.specs.Bool.{MatchBool}
use Rattle.std.specs.declared.net.socket_addr.SocketAddr.{SocketAddr}
use Rattle.stun_types_wire.specs.Attributes.{kind_at}
use Rattle.stun_types_wire.specs.Grammar.{number_at}
use Rattle.stun_types_wire.specs.declared.class.MessageClass.{MessageClass}
use Rattle.stun_types_wire.specs.declared.class.MessageClass.TheVariants.{Success}
use Rattle.stun_types_wire.specs.Types.{class_of, method_of}
use Rattle.turn_types_attributes.specs.TurnRegistry.{connection_bind_method}
use Rattle.turn_client_proto_allocation.specs.declared.allocation.Allocation.{Allocation}
use Rattle.turn_client_proto_allocation.specs.declared.connection.Binding.{Binding}
use Rattle.turn_client_proto_allocation.specs.declared.connection.Connection.{Connection}
use Rattle.stun_proto_client.specs.Client as auth
use Rattle.stun_proto_client.specs.declared.error.LongTermClientAuthError.{LongTermClientAuthError}
use Rattle.stun_proto_client.specs.declared.error.LongTermClientAuthError.TheVariants.{NoMemory}
use Rattle.stun_proto_client.specs.declared.validation.LongTermClientValidation.{LongTermClientValidation}
use Rattle.stun_proto_client.specs.declared.validation.LongTermClientValidation.TheVariants.{ResendRequest, Validated}
use Rattle.turn_client_proto_api.specs.StunProtoAgent.Handling.{is_awaited, is_response}
use Rattle.turn_client_proto_api.specs.declared.event.TurnEvent.TheVariants.{TcpConnected, TcpConnectFailed}
use Rattle.turn_client_proto_connection.specs.Sockets.{closed}
use Rattle.turn_client_proto_connection.specs.Streams.{from, waits_from}
use Rattle.turn_client_proto_core.specs.Asking.{requested_from}
use Rattle.turn_client_proto_core.specs.Deleting.{is_authenticated}
use Rattle.stun_types_base.specs.Times.{time_after}
use Rattle.turn_client_proto_core.specs.Numbering.{IsNextNumber, after_number}
use Rattle.turn_client_proto_core.specs.Responding.{accepted, answered, judged}
use Rattle.turn_client_proto_core.specs.declared.protocol.Protocol.{Protocol}
use Rattle.turn_client_proto_messages.specs.Judging.{IsJudged}
use Rattle.turn_client_proto_messages.specs.ReportedRequests.{IsLawfulRequest}
use Rattle.turn_client_proto_messages.specs.declared.request.TurnRequest.TheVariants.{ConnectionBind}
use Rattle.turn_client_proto_recv.specs.Sockets.{binding_time}
use Rattle.turn_client_proto_recv.specs.declared.processing.Joining.{Joining}

-- ---- which connection is to be bound

-- What an unbound connection waits for.
abbrev pub joining_by : Connection → Binding → Joining
joining_by c b = record { number = b.number; peer = c.peer; connection = c.connection }

abbrev pub joining_of : Connection → Option Joining
joining_of c = option_map (joining_by c) c.awaited

-- What the connection with this local address waits for, if it is unbound.
abbrev pub awaited_at : SocketAddr → List Allocation → Option Joining
awaited_at here allocations = option_and_then joining_of (from here allocations)

-- ---- what becomes of it

-- The client after its connection with this local address was bound. An event reports it.
unfoldable pub bound_at : (here peer : SocketAddr) → Protocol → Protocol
bound_at here peer p = record p {
  allocations = waits_from here None p.allocations;
  events = p.events ++ TcpConnected peer ∷ [];
}

-- The client after that connection failed: it is removed, an event reports it, and the caller has to close
-- its socket.
unfoldable pub aborted : (here peer : SocketAddr) → Protocol → Protocol
aborted here peer p = record p {
  allocations = map (closed here) p.allocations;
  events = p.events ++ TcpConnectFailed peer ∷ [];
  closing = p.closing ++ here ∷ [];
}

-- The client after it queued another CONNECTION_BIND for that connection, with `transaction_id`. The
-- previous request stays outstanding.
unfoldable pub requested_anew : SocketAddr → (connection transaction_id now : ℕ) → Protocol → Protocol
requested_anew here connection transaction_id now p = record (requested_from here (after_number p) (ConnectionBind connection) transaction_id now) {
  allocations = waits_from here (Some (record { number = transaction_id; expiry = time_after now binding_time })) p.allocations;
}

-- Another CONNECTION_BIND was queued, with the next transaction ID.
pub record IsRequestedAnew (here : SocketAddr) (connection now : ℕ) (old new : Protocol) : Type 0 where
  pub number : ℕ
  pub is_next : IsNextNumber old number
  pub lawful : IsLawfulRequest (ConnectionBind connection)
  pub after : new ≡ requested_anew here connection number now old

-- ---- a response to the request that is to bind it

abbrev pub is_success_class : MessageClass → Bool
is_success_class Success = true
is_success_class _ = false

-- The outcome of a validated response. It is accepted if its transaction is outstanding, and then a success
-- binds the connection. Otherwise the connection fails.
abbrev pub IsSettled : (here peer : SocketAddr) → Protocol → List ℕ → Protocol → Type 0
IsSettled here peer p bytes new = MatchBool (is_awaited p.agent bytes)
    (MatchBool (is_success_class (class_of (kind_at bytes)))
    (new ≡ bound_at here peer (accepted bytes p))
    (new ≡ aborted here peer (accepted bytes p)))
    (new ≡ aborted here peer p)

-- The outcome of a response, by the verdict on it. A challenge that can be answered is answered, and isn't
-- counted. A response that doesn't validate ends its transaction.
abbrev pub IsAnswerJudged : Result LongTermClientValidation LongTermClientAuthError → SocketAddr → Joining → Protocol
    → List ℕ → ℕ → Protocol → Type 0
IsAnswerJudged (Ok (ResendRequest choice)) here j p bytes now new = IsRequestedAnew here j.connection now p new
IsAnswerJudged (Ok (Validated algorithm)) here j p bytes now new = IsSettled here j.peer p bytes new
IsAnswerJudged (Err NoMemory) here j p bytes now new = ⊥
IsAnswerJudged (Err error) here j p bytes now new = new ≡ aborted here j.peer (answered bytes p)

pub record IsAnswerProcessed (here : SocketAddr) (j : Joining) (old : Protocol) (bytes : List ℕ) (now : ℕ) (new : Protocol)
    : Type 0 where
  pub verdict : Result LongTermClientValidation LongTermClientAuthError
  pub auth : auth.Client
  pub is_judged : IsJudged old.auth bytes verdict auth
  pub outcome : IsAnswerJudged verdict here j (judged auth old) bytes now new

-- ---- a message

-- The message is the response to the request `transaction_id`.
abbrev pub is_answer : ℕ → List ℕ → Bool
is_answer transaction_id bytes = is_response bytes && (number_at bytes == transaction_id)

-- The outcome of a CONNECTION_BIND message. If it is no response to the newest request, the connection fails.
abbrev pub IsOfBinding : Option Joining → SocketAddr → Protocol → List ℕ → ℕ → Protocol → Type 0
IsOfBinding None here old bytes now new = new ≡ old
IsOfBinding (Some j) here old bytes now new = MatchBool (is_answer j.number bytes)
    (IsAnswerProcessed here j old bytes now new)
    (new ≡ aborted here j.peer old)

-- The client has allocated, and the message has the method CONNECTION_BIND; others are ignored.
abbrev pub is_of_binding : Protocol → List ℕ → Bool
is_of_binding p bytes = is_authenticated p.phase && (method_of (kind_at bytes) == connection_bind_method)

-- The outcome of a message on the socket with this local address.
abbrev pub IsProcessedAt : SocketAddr → Protocol → List ℕ → ℕ → Protocol → Type 0
IsProcessedAt here old bytes now new = MatchBool (is_of_binding old bytes)
    (IsOfBinding (awaited_at here old.allocations) here old bytes now new)
    (new ≡ old)

-- Handling the message may need memory.
abbrev pub may_bind : SocketAddr → Protocol → List ℕ → Bool
may_bind here p bytes = is_of_binding p bytes && is_some (awaited_at here p.allocations)
