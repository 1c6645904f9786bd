-- What it comes to that a client requests a connection to a peer while a loop drives it (RFC 6062, section 4.3; RFC
-- 8489, section 9.2.5).
use Rattle.std.specs.Prelude.{◌≡◌, ◌≢◌, ◌≤◌, ◌<◌, ◌⊎◌, ℕ, true, List, [], ◌∷◌, Some, IfSome}
use Rattle.std.specs.Net.Socket.{socket_ip}
use Rattle.std.specs.declared.net.socket_addr.SocketAddr.{SocketAddr}
use Rattle.turn_desk_core.specs.StunTypesBase.Family.{family_of_socket}
use Rattle.turn_desk_core.specs.StunTypesBase.Times.{time_after}
use Rattle.turn_desk_core.specs.StunTypesWire.Grammar.{number_at}
use Rattle.turn_desk_core.specs.TurnTypesAttributes.TurnRegistry.{connect_method, connection_bind_method, create_permission_method}
use Rattle.turn_client_proto_api.specs.StunProtoAuth.Claims.{claimed}
use Rattle.turn_client_proto_api.specs.Sent.{Sent}
use Rattle.turn_client_proto_api.specs.declared.answer.Socket5Tuple.{Socket5Tuple}
use Rattle.turn_client_proto_messages.specs.StunProtoClient.Challenges.{ChallengeFields, challenge_visible}
use Rattle.turn_client_proto_messages.specs.declared.request.TurnRequest.{TurnRequest}
use Rattle.turn_client_proto_messages.specs.declared.request.TurnRequest.TheVariants as turn
use Rattle.turn_client_proto_step_laws.specs.Sound.{IsWhole}
use Rattle.turn_client_proto_messages.specs.Api.Options.{cadence}
use Rattle.turn_desk_event.specs.declared.answer.Answer.{Answer}
use Rattle.turn_desk_event.specs.declared.answer.Answer.TheVariants as answer
use Rattle.turn_desk_event.specs.declared.event.ClientCall.TheVariants as call
use Rattle.turn_desk_event.specs.declared.event.Event.{Event}
use Rattle.turn_desk_event.specs.declared.event.Event.TheVariants.{Call, Draw}
use Rattle.turn_desk_world_laws.specs.TurnClientProtoConnection.Visible.{connections_listed}
use Rattle.turn_desk_world_laws.specs.World.Model.{World}
use Rattle.turn_desk_progress_laws.specs.Linked.{Asks, IsSigned}
use Rattle.turn_desk_progress_laws.specs.Loops.{Gives}
use Rattle.turn_desk_progress_laws.specs.Promises.{HasClient}
use Rattle.turn_desk_progress_laws.specs.Scripts.{Plan}
use Rattle.turn_desk_laws.specs.ConnectionLoops.{Answered, Bind, Bound, Challenge, Challenged, Clear, Connect, Held, Known, Method, Off, Permission}
use Rattle.turn_desk_laws.specs.ConnectionLoops.{Permitted, Position, Queued, Reached, Target, Timing, Transmitted, Unpermitted, Waiting}

-- ---- a request

-- What a request of this method asks for, its method, and the address from which it is sent: a CONNECTION_BIND is
-- sent from the socket.
abbrev pub request_made_for : Target → Method → TurnRequest
request_made_for target Permission = turn.CreatePermission (socket_ip target.peer ∷ [])
request_made_for target Connect = turn.Connect target.peer
request_made_for target Bind = turn.ConnectionBind target.number

abbrev pub number_of : Method → ℕ
number_of Permission = create_permission_method
number_of Connect = connect_method
number_of Bind = connection_bind_method

abbrev pub from_of : Plan → Target → Method → SocketAddr
from_of plan target Bind = target.local
from_of plan target method = plan.client.here

-- XOR-PEER-ADDRESS carries the peer completely.
abbrev pub CanCarry : Target → Method → Type 0
CanCarry target Connect = IsWhole target.peer
CanCarry target method = Unit {0}

-- The transaction ID is another one than that of the challenged request. Of a CONNECTION_BIND nothing is said here.
abbrev pub IsOther : Method → (old new : ℕ) → Type 0
IsOther Bind old new = Unit {0}
IsOther method old new = new ≢ old

-- The request answers the challenge: it has the challenge's nonce, and another transaction ID than the challenged
-- request.
pub record IsAnew (method : Method) (challenge : Challenge) (request : Sent) : Type 0 where
  pub other : IsOther method (number_at challenge.request.bytes) (number_at request.bytes)
  pub nonce : (reported : ChallengeFields) → challenge_visible challenge.reply ≡ Some reported
      → (claimed request.bytes).nonce ≡ Some reported.nonce

-- A request of this method: signed under the user's key in the server core's realm, for what the application
-- requested; and if it answers a challenge, anew.
pub record IsRequest (plan : Plan) (old : World) (target : Target) (method : Method) (t : Timing) (request : Sent)
    : Type 0 where
  pub signed : IsSigned plan old (from_of plan target method) (number_of method) request
  pub asks : CanCarry target method → Asks (request_made_for target method) request
  pub anew : IfSome t.again (λ challenge. IsAnew method challenge request)

-- ---- what a call gives

-- A queued request is given by the first call of `poll_transmit` at least 50 ms after the last message, and by no
-- earlier one.
pub record IsGivenInTime (plan : Plan) (old : World) (target : Target) (method : Method) (t : Timing) (now : ℕ)
    (ret : Answer) : Type 0 where
  pub due : time_after t.sent cadence ≤ now → Gives ret (λ request. IsRequest plan old target method t request)
  pub early : now < time_after t.sent cadence → ret ≡ answer.Nothing

-- Otherwise calls of `poll_transmit` give nothing: over TCP no request is transmitted twice (RFC 8489, section
-- 6.2.2).
abbrev pub IsDrawAt : Plan → World → Target → Reached → Timing → (now : ℕ) → Answer → Type 0
IsDrawAt plan old target (Queued method) t now ret = IsGivenInTime plan old target method t now ret
IsDrawAt plan old target Unpermitted t now ret = Unit {0}
IsDrawAt plan old target reached t now ret = ret ≡ answer.Nothing

-- The client requests a socket for the decided connection ID, and for the peer.
abbrev pub IsSocketFor : Plan → Target → (connection : ℕ) → Socket5Tuple → SocketAddr → Type 0
IsSocketFor plan target connection socket peer = (connection ≡ target.number)
    × (socket ≡ record { transport = plan.client.transport; from = plan.client.here; to = plan.client.server })
    × (peer ≡ target.peer)

abbrev pub Requests : Plan → Target → Answer → Type 0
Requests plan target (answer.Socket connection socket peer) = IsSocketFor plan target connection socket peer
Requests plan target ret = ⊥

-- Once the connection ID is known, `poll` requests that socket, unless an event is queued.
abbrev pub IsPolledAt : Plan → Target → World → Reached → Answer → Type 0
IsPolledAt plan target w Known ret = Requests plan target ret ⊎ HasClient plan [] w (λ p. p.events ≢ [])
IsPolledAt plan target w Clear ret = Requests plan target ret
IsPolledAt plan target w reached ret = Unit {0}

-- What an event gives at a position, in this state of the simulation.
abbrev pub IsGivenBy : Plan → World → Target → Position → World → Event → Answer → Type 0
IsGivenBy plan old target position w (Draw now) ret = IsDrawAt plan old target position.reached position.timing now ret
IsGivenBy plan old target position w (Call call.Poll now) ret = IsPolledAt plan target w position.reached ret
IsGivenBy plan old target position w event ret = Unit {0}

-- ---- what holds at a position

-- The client holds exactly this connection, with its local address, its peer and its connection ID, and it is bound.
abbrev pub IsJoinedTo : Plan → Target → World → Type 0
IsJoinedTo plan target w = HasClient plan [] w
    (λ p. connections_listed p.allocations ≡ (target.local, target.peer, target.number, true) ∷ [])

-- What holds when a position is reached:
--
-- - `Unpermitted`: The permission is refused only if the peer is of another family than the allocation.
-- - `Transmitted`: The message is a request as `IsRequest` says.
-- - `Waiting`: A socket is requested for the connection ID that the server core decided, and for that peer.
-- - `Bound`: The connection is bound.
-- - `Off`: This is never reached.
abbrev pub HasReached : Plan → World → SocketAddr → Target → Reached → Timing → World → Type 0
HasReached plan old address target Unpermitted t new = family_of_socket target.peer ≢ family_of_socket address
HasReached plan old address target (Transmitted method request) t new = IsRequest plan old target method t request
HasReached plan old address target (Waiting connection socket peer) t new =
    IsSocketFor plan target connection socket peer
HasReached plan old address target (Bound more) t new = IsJoinedTo plan target new
HasReached plan old address target Off t new = ⊥
HasReached plan old address target reached t new = Unit {0}
