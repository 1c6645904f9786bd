-- The state of the simulation at each position of a loop that comes to a connection (ConnectionLoops.antt).
use Rattle.std.specs.Prelude.{◌≡◌, ◌≢◌, ◌≤◌, ◌<◌, ◌^◌, ℕ, true, List, [], ◌∷◌, Option, Some, None, IfSome}
use Rattle.std.specs.Net.Socket.{socket_ip}
use Rattle.std.specs.declared.net.socket_addr.SocketAddr.{SocketAddr}
use Rattle.turn_desk_core.specs.StunTypesBase.Family.{family_of_socket}
use Rattle.turn_desk_core.specs.StunTypesWire.Grammar.{number_at, refusal}
use Rattle.turn_desk_core.specs.StunTypesWire.declared.algorithm.IntegrityAlgorithm.{IntegrityAlgorithm}
use Rattle.turn_client_proto_messages.specs.StunProtoClient.Challenges.{ChallengeFields, challenge_visible}
use Rattle.turn_client_proto_messages.specs.StunProtoClient.Client.{Client, Standing}
use Rattle.turn_client_proto_api.specs.TurnTypesFrame.Streams.{alive}
use Rattle.turn_client_proto_api.specs.declared.answer.Socket5Tuple.{Socket5Tuple}
use Rattle.turn_client_proto_api.specs.declared.event.TurnEvent.{TurnEvent}
use Rattle.turn_client_proto_api.specs.Sent.{Sent}
use Rattle.turn_client_proto_messages.specs.Allocation.Awaited.{has_number}
use Rattle.turn_client_proto_messages.specs.Allocation.declared.allocation.Allocation.{Allocation}
use Rattle.turn_client_proto_messages.specs.Allocation.declared.permission.Permission.{Permission as Permitting}
use Rattle.turn_client_proto_messages.specs.Reported.{connection_reported}
use Rattle.turn_client_proto_messages.specs.ReportedRequests.{IsLawfulRequest}
use Rattle.turn_client_proto_messages.specs.Waiting.{Queued as QueuedMessage}
use Rattle.turn_desk_world_laws.specs.TurnClientProtoPeers.Permission.Granted.{granted_for}
use Rattle.turn_client_proto_step_laws.specs.Recv.ClientState.{Protocol}
use Rattle.turn_client_proto_handshake_laws.specs.Coming.{IsPartOf}
use Rattle.turn_client_proto_handshake_laws.specs.Core.Responding.{most_resends}
use Rattle.turn_client_proto_handshake_laws.specs.Requested.{Requested}
use Rattle.turn_client_proto_progress_laws.specs.Holders.{Holder, IsListed, queued_from, sent_from, signed_by}
use Rattle.turn_client_proto_progress_laws.specs.Replies.{CanAnswer, IsChallengeOf, IsSuccessOf}
use Rattle.turn_client_proto_progress_laws.specs.TcpBinding.{AwaitsSocket, HasLearned, IsBound, IsHolding, IsReady, IsTcpBinding}
use Rattle.turn_client_proto_progress_laws.specs.TcpBinding.{allocation_of, connecting_to, joining}
use Rattle.turn_desk_world_laws.specs.World.Model.{World}
use Rattle.turn_desk_progress_laws.specs.Joining.{IsOfRealm, ReportsOwn}
use Rattle.turn_desk_progress_laws.specs.Promises.{HasClient}
use Rattle.turn_desk_progress_laws.specs.Scripts.{Plan}
use Rattle.turn_desk_progress_laws.specs.Standing.{IsOfSettings}
use Rattle.turn_desk_laws.specs.ConnectionRequests.{permitting_by}
use Rattle.turn_desk_laws.specs.ConnectionLoops.{Answered, Bind, Bound, Challenge, Challenged, Clear, Connect, Held, Known, Method, MayChallenge, Off, Permission}
use Rattle.turn_desk_laws.specs.ConnectionLoops.{Permitted, Position, Queued, Reached, Target, Timing, Transmitted, Unpermitted, Waiting}
use Rattle.turn_desk_laws.specs.ConnectionPromises.{IsOther, IsSocketFor, request_made_for, from_of, number_of}

-- ---- who holds the allocation, and of what server core

-- The client of a plan, with this authenticator, under this challenge, to which this address was allocated at
-- `since`.
abbrev pub holder_at : Plan → SocketAddr → (lifetime since : ℕ) → Client → Standing → Holder
holder_at plan address lifetime since auth standing = record {
  started = plan.client;
  auth = auth;
  standing = standing;
  address = address;
  lifetime = lifetime;
  since = since;
}

-- If the server core stores anything for this address, it is a nonce that announces what the server core accepted at
-- first.
abbrev pub ReportsFirst : World → SocketAddr → World → Type 0
ReportsFirst old from w = ReportsOwn old.desk.auth.algorithms old.desk.auth.anonymous_username from w.desk.auth

-- The server core has the same realm, users and settings as at first. What it stores for the client's own address and
-- for that of the socket announces them.
pub record IsSameServer (plan : Plan) (target : Target) (old w : World) : Type 0 where
  pub realm : w.desk.auth.realm ≡ old.desk.auth.realm
  pub users : w.desk.auth.users ≡ old.desk.auth.users
  pub algorithms : w.desk.auth.algorithms ≡ old.desk.auth.algorithms
  pub anonymous : w.desk.auth.anonymous_username ≡ old.desk.auth.anonymous_username
  pub own : ReportsFirst old plan.client.here w
  pub other : ReportsFirst old target.local w

-- The simulation's client is such a holder, these first bytes of a message have reached it, and the statement `Is`
-- holds of it.
pub record IsHeldFor (plan : Plan) (old : World) (target : Target) (address : SocketAddr) (lifetime since : ℕ)
    (head : List ℕ) (Is : Holder → List TurnEvent → Protocol → Type 0) (w : World) : Type 0 where
  pub auth : Client
  pub standing : Standing
  pub of : IsOfRealm plan old auth standing
  pub server : IsSameServer plan target old w
  pub events : List TurnEvent
  pub client : HasClient plan head w (Is (holder_at plan address lifetime since auth standing) events)

-- ---- a request

-- The permission for the peer's IP.
abbrev pub permitted_at : Target → (granted : ℕ) → List Permitting
permitted_at target granted = granted_for (socket_ip target.peer) granted ∷ []

-- The client's allocation while a request of this method is queued or outstanding. A permission lists the transaction
-- IDs `ids` of its requests. Of the reply to a CONNECTION_BIND these first bytes have come over the socket.
abbrev pub pending_for : Target → Method → Holder → (granted made : ℕ) (ids : List ℕ) (transaction_id : ℕ)
    (head : List ℕ) → Allocation
pending_for target Permission h granted made ids transaction_id head = permitting_by h (socket_ip target.peer) ids
pending_for target Connect h granted made ids transaction_id head =
    connecting_to h (permitted_at target granted) target.peer transaction_id
pending_for target Bind h granted made ids transaction_id head = allocation_of h (permitted_at target granted)
    (joining target.local target.peer target.number transaction_id made head)

-- Of the earlier requests only CONNECTION_BINDs may be outstanding.
abbrev pub earlier_of : Method → List Requested → List Requested
earlier_of Bind older = older
earlier_of method older = []

-- These first bytes of a reply have come over the client's own connection, or over the socket.
abbrev pub own_head : Method → List ℕ → List ℕ
own_head Bind head = []
own_head method head = head

abbrev pub socket_head : Method → List ℕ → List ℕ
socket_head Bind head = head
socket_head method head = []

-- The local address of the socket isn't the client's own.
abbrev pub IsApart : Plan → Target → Method → Type 0
IsApart plan target Bind = target.local ≢ plan.client.here
IsApart plan target method = Unit {0}

-- The client counts challenges, except those to a CONNECTION_BIND.
abbrev pub Counts : Method → (challenges : ℕ) → Protocol → Type 0
Counts Bind challenges p = Unit {0}
Counts method challenges p = p.resends ≡ challenges

-- The client has stored the challenge that the request with this transaction ID answers.
pub record HasStored (method : Method) (challenge : Challenge) (h : Holder) (transaction_id : ℕ) : Type 0 where
  pub other : IsOther method (number_at challenge.request.bytes) transaction_id
  pub nonce : (reported : ChallengeFields) → challenge_visible challenge.reply ≡ Some reported
      → h.standing.challenge.nonce ≡ reported.nonce

-- The request, as its method and the times of the position have it.
abbrev pub request_at : Target → Method → Holder → Timing → (transaction_id : ℕ) → Requested
request_at target method h t transaction_id = signed_by h (request_made_for target method) transaction_id t.made

-- It is queued, to be sent from its address.
abbrev pub queued_at : Plan → Target → Method → Holder → Timing → (transaction_id : ℕ) → List QueuedMessage
queued_at plan target method h t transaction_id =
    queued_from (from_of plan target method) (request_at target method h t transaction_id) ∷ []

-- The request with this transaction ID is outstanding, and these messages are queued.
pub record IsRequestMade (plan : Plan) (target : Target) (method : Method) (t : Timing) (queue : List QueuedMessage)
    (head : List ℕ) (h : Holder) (events : List TurnEvent) (p : Protocol) (transaction_id : ℕ) : Type 0 where
  pub fits : transaction_id < 2 ^ 96
  pub ids : List ℕ
  pub among : has_number transaction_id ids ≡ true
  pub older : List Requested
  pub since_oldest : (x : Requested) → IsListed x (earlier_of method older) → t.oldest ≤ x.made
  pub made_later : t.oldest ≤ t.made
  pub lawful : IsLawfulRequest (request_made_for target method)
  pub apart : IsApart plan target method
  pub is : IsTcpBinding h (Some (request_at target method h t transaction_id)) (earlier_of method older)
      (pending_for target method h t.granted t.made ids transaction_id (socket_head method head)) queue t.sent events p
  pub counts : Counts method t.challenges p
  pub again : IfSome t.again (λ challenge. HasStored method challenge h transaction_id)

pub record IsQueued (plan : Plan) (target : Target) (method : Method) (t : Timing) (h : Holder)
    (events : List TurnEvent) (p : Protocol) : Type 0 where
  pub transaction_id : ℕ
  pub request_made : IsRequestMade plan target method t (queued_at plan target method h t transaction_id) [] h events p
      transaction_id

pub record IsTransmitted (plan : Plan) (target : Target) (method : Method) (t : Timing) (request : Sent)
    (head : List ℕ) (h : Holder) (events : List TurnEvent) (p : Protocol) : Type 0 where
  pub transaction_id : ℕ
  pub request_made : IsRequestMade plan target method t [] head h events p transaction_id
  pub request_is : request
      ≡ sent_from h (from_of plan target method) (request_at target method h t transaction_id)

-- ---- its reply

-- The success response to a CONNECT has the connection ID.
abbrev pub HasConnectionId : Target → Method → List ℕ → Type 0
HasConnectionId target Connect reply = connection_reported reply ≡ Some target.number
HasConnectionId target method reply = Unit {0}

pub record IsAnswered (plan : Plan) (target : Target) (method : Method) (t : Timing) (request : Sent)
    (reply head : List ℕ) (h : Holder) (events : List TurnEvent) (p : Protocol) : Type 0 where
  pub transmitted : IsTransmitted plan target method t request head h events p
  pub message : refusal reply ≡ None
  pub success : IsSuccessOf h (number_of method) transmitted.transaction_id reply
  pub decodes : HasConnectionId target method reply
  pub part : IsPartOf head reply

-- The reply is a challenge of the server core, which the client can answer.
pub record IsChallenged (plan : Plan) (old : World) (target : Target) (method : Method) (t : Timing) (request : Sent)
    (reply head : List ℕ) (h : Holder) (events : List TurnEvent) (p : Protocol) : Type 0 where
  pub transmitted : IsTransmitted plan target method t request head h events p
  pub message : refusal reply ≡ None
  pub reported : ChallengeFields
  pub challenge : IsChallengeOf reported (number_of method) transmitted.transaction_id reply
  pub of : IsOfSettings old.desk.auth reported
  pub choice : IntegrityAlgorithm
  pub can : CanAnswer h reported choice
  pub may : MayChallenge method t
  pub part : IsPartOf head reply

-- ---- at each position

pub record HasHeld (t : Timing) (h : Holder) (events : List TurnEvent) (p : Protocol) : Type 0 where
  pub is : IsHolding h t.sent events p
  pub counts : p.resends ≡ t.challenges

pub record IsPermitted (target : Target) (t : Timing) (h : Holder) (events : List TurnEvent) (p : Protocol)
    : Type 0 where
  pub is : IsReady h (socket_ip target.peer) t.granted t.sent events p
  pub counts : p.resends ≡ t.challenges

abbrev pub IsKnown : Target → Timing → Holder → List TurnEvent → Protocol → Type 0
IsKnown target t h events p = HasLearned h (permitted_at target t.granted) target.number target.peer t.sent events p

pub record IsClear (target : Target) (t : Timing) (h : Holder) (events : List TurnEvent) (p : Protocol) : Type 0 where
  pub none : events ≡ []
  pub is : IsKnown target t h events p

pub record IsWaiting (plan : Plan) (target : Target) (t : Timing) (connection : ℕ) (socket : Socket5Tuple)
    (peer : SocketAddr) (h : Holder) (events : List TurnEvent) (p : Protocol) : Type 0 where
  pub socket_is : IsSocketFor plan target connection socket peer
  pub is : AwaitsSocket h (permitted_at target t.granted) target.number target.peer t.sent events p

pub record IsJoined (target : Target) (t : Timing) (more : List ℕ) (h : Holder) (events : List TurnEvent) (p : Protocol)
    : Type 0 where
  pub older : List Requested
  pub since_oldest : (x : Requested) → IsListed x older → t.oldest ≤ x.made
  pub is : IsBound h older (permitted_at target t.granted) target.local target.peer target.number t.sent (alive more)
      events p

-- The state of the simulation at a position.
abbrev pub IsStage : Plan → World → Target → SocketAddr → (lifetime since : ℕ) → Reached → Timing → World → Type 0
IsStage plan old target address lifetime since Held t w =
    IsHeldFor plan old target address lifetime since [] (λ h events p. HasHeld t h events p) w
IsStage plan old target address lifetime since Unpermitted t w =
    family_of_socket target.peer ≢ family_of_socket address
IsStage plan old target address lifetime since (Queued method) t w =
    IsHeldFor plan old target address lifetime since [] (λ h events p. IsQueued plan target method t h events p) w
IsStage plan old target address lifetime since (Transmitted method request) t w =
    IsHeldFor plan old target address lifetime since []
    (λ h events p. IsTransmitted plan target method t request [] h events p) w
IsStage plan old target address lifetime since (Answered method request reply head) t w =
    IsHeldFor plan old target address lifetime since (own_head method head)
    (λ h events p. IsAnswered plan target method t request reply head h events p) w
IsStage plan old target address lifetime since (Challenged method request reply head) t w =
    IsHeldFor plan old target address lifetime since (own_head method head)
    (λ h events p. IsChallenged plan old target method t request reply head h events p) w
IsStage plan old target address lifetime since Permitted t w =
    IsHeldFor plan old target address lifetime since [] (λ h events p. IsPermitted target t h events p) w
IsStage plan old target address lifetime since Known t w =
    IsHeldFor plan old target address lifetime since [] (λ h events p. IsKnown target t h events p) w
IsStage plan old target address lifetime since Clear t w =
    IsHeldFor plan old target address lifetime since [] (λ h events p. IsClear target t h events p) w
IsStage plan old target address lifetime since (Waiting connection socket peer) t w =
    IsHeldFor plan old target address lifetime since []
    (λ h events p. IsWaiting plan target t connection socket peer h events p) w
IsStage plan old target address lifetime since (Bound more) t w =
    IsHeldFor plan old target address lifetime since [] (λ h events p. IsJoined target t more h events p) w
IsStage plan old target address lifetime since Off t w = ⊥

-- A permission is requested only if the peer has the family of the allocation.
abbrev pub IsOfFamily : Target → SocketAddr → Reached → Type 0
IsOfFamily target address Held = Unit {0}
IsOfFamily target address Unpermitted = Unit {0}
IsOfFamily target address reached = family_of_socket target.peer ≡ family_of_socket address

pub record IsAtPosition (plan : Plan) (old : World) (target : Target) (address : SocketAddr) (lifetime since : ℕ)
    (position : Position) (w : World) : Type 0 where
  pub sooner : position.timing.oldest ≤ position.last
  pub family : IsOfFamily target address position.reached
  pub stage : IsStage plan old target address lifetime since position.reached position.timing w
