-- The state of the simulation at each position of an honest network over which a connection to a peer is
-- requested.
use Rattle.std.specs.Prelude.{◌≡◌, ◌≢◌, ◌<◌, ◌^◌, ℕ, List, [], ◌∷◌, Some, None}
use Rattle.std.specs.FinMap as map
use Rattle.std.specs.Net.Socket.{socket_ip}
use Rattle.std.specs.declared.net.socket_addr.SocketAddr.{SocketAddr}
use Rattle.turn_desk_core.specs.StunTypesBase.Family.{family_of_socket}
use Rattle.turn_desk_core.specs.StunTypesWire.Grammar.{refusal}
use Rattle.turn_desk_core.specs.StunTypesWire.declared.algorithm.IntegrityAlgorithm.{IntegrityAlgorithm}
use Rattle.turn_client_proto_messages.specs.StunProtoClient.Challenges.{ChallengeFields as ChallengeFieldsOf}
use Rattle.turn_client_proto_messages.specs.StunProtoClient.Client.{Client, Standing}
use Rattle.turn_client_proto_messages.specs.StunProtoClient.ClientValidation.{IsAnswerable}
use Rattle.turn_client_proto_api.specs.StunProtoAuth.declared.feature.Feature.{Feature}
use Rattle.turn_client_proto_api.specs.StunProtoAuth.Nonce.{features_offered, features_in}
use Rattle.turn_desk_core.specs.StunProtoServer.Server.{Client as ClientState, Server}
use Rattle.turn_desk_core.specs.TurnTypesAttributes.TurnRegistry.{connect_method, connection_bind_method, create_permission_method}
use Rattle.turn_client_proto_api.specs.TurnTypesFrame.Streams.{alive}
use Rattle.turn_client_proto_messages.specs.Allocation.declared.permission.Permission.{Permission}
use Rattle.turn_client_proto_api.specs.declared.answer.Socket5Tuple.{Socket5Tuple}
use Rattle.turn_client_proto_api.specs.declared.event.TurnEvent.{TurnEvent}
use Rattle.turn_client_proto_handshake_laws.specs.Requested.{Requested as Request}
use Rattle.turn_client_proto_handshake_laws.specs.Coming.{IsPartOf}
use Rattle.turn_client_proto_api.specs.Sent.{Sent}
use Rattle.turn_client_proto_progress_laws.specs.Free.{CanPermit}
use Rattle.turn_client_proto_progress_laws.specs.Holders.{Holder, sent_from}
use Rattle.turn_client_proto_progress_laws.specs.TcpBinding.{AwaitsSocket, HasRequestedBind, HasRequestedConnect, HasRequestedPermission}
use Rattle.turn_client_proto_progress_laws.specs.TcpBinding.{HasLearned}
use Rattle.turn_client_proto_progress_laws.specs.TcpBinding.{HasSentBind, HasSentConnect, HasSentPermission, IsBound, IsHolding}
use Rattle.turn_client_proto_progress_laws.specs.TcpBinding.{IsReady}
use Rattle.turn_client_proto_progress_laws.specs.TcpBinding.{bind_request, connect_request, own_tuple_of, permission_request}
use Rattle.turn_desk_world_laws.specs.TurnClientProtoPeers.Permission.Granted.{granted_for}
use Rattle.turn_client_proto_progress_laws.specs.Replies.{IsSuccessOf}
use Rattle.turn_client_proto_messages.specs.ReportedRequests.{IsLawfulRequest}
use Rattle.turn_client_proto_messages.specs.declared.request.TurnRequest.TheVariants.{CreatePermission}
use Rattle.turn_client_proto_messages.specs.Reported.{connection_reported}
use Rattle.turn_client_proto_step_laws.specs.Recv.ClientState.{Protocol}
use Rattle.turn_desk_world_laws.specs.World.Model.{World}
use Rattle.turn_desk_progress_laws.specs.Promises.{HasClient}
use Rattle.turn_desk_progress_laws.specs.Scripts.{Plan}
use Rattle.turn_desk_progress_laws.specs.Standing.{IsOfSettings}
use Rattle.turn_desk_progress_laws.specs.Links.{AskTransmitted, Requested, Answered, Binding, Bound, Called, Clear, Transmitted, Eventful}
use Rattle.turn_desk_progress_laws.specs.Links.{Held, Known, Link, Off}
use Rattle.turn_desk_progress_laws.specs.Links.{Opened, Permitted, Permitting, Reached, Reported, Unpermitted, Waiting}

-- ---- who holds the allocation, and of what desk

-- The client of a plan, with this authenticator, under this challenge, to which this address was allocated.
abbrev pub holder_in : Plan → SocketAddr → (lifetime : ℕ) → Client → Standing → Holder
holder_in plan address lifetime auth standing = record {
  started = plan.client;
  auth = auth;
  standing = standing;
  address = address;
  lifetime = lifetime;
  since = plan.second;
}

-- If the server stores anything for the address, it is a nonce that announces these algorithms and this
-- setting for anonymity.
abbrev pub ReportsOwn : List IntegrityAlgorithm → Feature → SocketAddr → Server → Type 0
ReportsOwn algorithms anonymous address server = (stored : ClientState) → map.get server.clients address ≡ Some stored
    → features_in stored.nonce ≡ features_offered algorithms anonymous

-- The client's credentials are those of the plan, used in the server core's realm. The client can answer a
-- challenge that accepts what the server core accepts.
pub record IsOfRealm (plan : Plan) (old : World) (auth : Client) (standing : Standing) : Type 0 where
  pub account : standing.account ≡ plan.client.config.credentials
  pub realm : standing.challenge.realm ≡ old.desk.auth.realm
  pub reported : ChallengeFieldsOf
  pub choice : IntegrityAlgorithm
  pub of : IsOfSettings old.desk.auth reported
  pub answered : IsAnswerable auth reported choice

-- If the server stores anything for the socket's address, it is a nonce that announces what the server
-- accepts. This holds if it stores nothing for the address, or generated the nonce since it got its present
-- settings.
abbrev pub KeepsOwn : Link → Server → Type 0
KeepsOwn link server = ReportsOwn server.algorithms server.anonymous_username link.local server

-- The server core has the same realm, users and settings. If it met `KeepsOwn` for the socket's address at
-- first, it still does.
pub record IsSameDesk (link : Link) (old w : World) : Type 0 where
  pub realm : w.desk.auth.realm ≡ old.desk.auth.realm
  pub users : w.desk.auth.users ≡ old.desk.auth.users
  pub algorithms : w.desk.auth.algorithms ≡ old.desk.auth.algorithms
  pub anonymous : w.desk.auth.anonymous_username ≡ old.desk.auth.anonymous_username
  pub decodes : KeepsOwn link old.desk.auth
      → ReportsOwn old.desk.auth.algorithms old.desk.auth.anonymous_username link.local w.desk.auth

-- The simulation's client is such a holder, these first bytes of a message have reached it, and the statement
-- `Is` holds of it.
pub record IsHeldBy (plan : Plan) (old : World) (address : SocketAddr) (lifetime : ℕ) (link : Link) (head : List ℕ)
    (Is : Holder → List TurnEvent → Protocol → Type 0) (w : World) : Type 0 where
  pub auth : Client
  pub standing : Standing
  pub of : IsOfRealm plan old auth standing
  pub desk : IsSameDesk link old w
  pub events : List TurnEvent
  pub client : HasClient plan head w (Is (holder_in plan address lifetime auth standing) events)

-- ---- what it is at each position

-- The statement holds of some transaction ID.
pub record OfNumber (Is : ℕ → Type 0) : Type 0 where
  pub number : ℕ
  pub fits : number < 2 ^ 96
  pub is : Is number

-- The permission for the peer's IP.
abbrev pub permitted_in : Link → List Permission
permitted_in link = granted_for (socket_ip link.peer) link.granted ∷ []

-- A CREATE_PERMISSION is queued.
pub record IsRequested (link : Link) (last : ℕ) (h : Holder) (events : List TurnEvent) (p : Protocol) (transaction_id : ℕ) : Type 0 where
  pub lawful : IsLawfulRequest (CreatePermission (socket_ip link.peer ∷ []))
  pub could : CanPermit h (socket_ip link.peer) link.requested
  pub is : HasRequestedPermission h (socket_ip link.peer) transaction_id link.requested last events p

-- It was transmitted. `IsPermitting`: it was also granted, and these first bytes of the reply have come.
pub record IsAskTransmitted (link : Link) (request : Sent) (h : Holder) (events : List TurnEvent) (p : Protocol) (transaction_id : ℕ)
    : Type 0 where
  pub lawful : IsLawfulRequest (CreatePermission (socket_ip link.peer ∷ []))
  pub could : CanPermit h (socket_ip link.peer) link.requested
  pub request_is : request ≡ sent_from h h.started.here (permission_request h (socket_ip link.peer) transaction_id link.requested)
  pub is : HasSentPermission h (socket_ip link.peer) transaction_id link.requested link.granted events p

pub record IsPermitting (link : Link) (request : Sent) (reply head : List ℕ) (h : Holder) (events : List TurnEvent)
    (p : Protocol) (transaction_id : ℕ) : Type 0 where
  pub transmitted : IsAskTransmitted link request h events p transaction_id
  pub message : refusal reply ≡ None
  pub success : IsSuccessOf h create_permission_method transaction_id reply
  pub part : IsPartOf head reply

-- The permission is active.
pub record IsPermitted (link : Link) (h : Holder) (events : List TurnEvent) (p : Protocol) : Type 0 where
  pub could : CanPermit h (socket_ip link.peer) link.requested
  pub is : IsReady h (socket_ip link.peer) link.granted link.granted events p

-- The same for a CONNECT.
pub record IsTransmittedFor (link : Link) (request : Sent) (h : Holder) (events : List TurnEvent) (p : Protocol) (transaction_id : ℕ)
    : Type 0 where
  pub request_is : request ≡ sent_from h h.started.here (connect_request h link.peer transaction_id link.made)
  pub is : HasSentConnect h (permitted_in link) link.peer transaction_id link.made link.first events p

pub record IsReported (link : Link) (request : Sent) (reply head : List ℕ) (h : Holder) (events : List TurnEvent)
    (p : Protocol) (transaction_id : ℕ) : Type 0 where
  pub transmitted : IsTransmittedFor link request h events p transaction_id
  pub message : refusal reply ≡ None
  pub success : IsSuccessOf h connect_method transaction_id reply
  pub reported : connection_reported reply ≡ Some link.number
  pub part : IsPartOf head reply

-- The same for a CONNECTION_BIND from the socket. Requests before it may be outstanding.
pub record IsOpened (link : Link) (last : ℕ) (h : Holder) (events : List TurnEvent) (p : Protocol) (transaction_id : ℕ)
    : Type 0 where
  pub older : List Request
  pub made : ℕ
  pub apart : link.local ≢ h.started.here
  pub lawful : link.number < 2 ^ 32
  pub is : HasRequestedBind h older (permitted_in link) link.local link.peer link.number transaction_id made last events p

pub record IsBinding (link : Link) (sent : ℕ) (request : Sent) (head : List ℕ) (h : Holder) (events : List TurnEvent)
    (p : Protocol) (transaction_id : ℕ) : Type 0 where
  pub older : List Request
  pub made : ℕ
  pub apart : link.local ≢ h.started.here
  pub lawful : link.number < 2 ^ 32
  pub request_is : request ≡ sent_from h link.local (bind_request h link.number transaction_id made)
  pub is : HasSentBind h older (permitted_in link) link.local link.peer link.number transaction_id made sent head events p

pub record IsAnswered (link : Link) (sent : ℕ) (request : Sent) (reply head : List ℕ) (h : Holder)
    (events : List TurnEvent) (p : Protocol) (transaction_id : ℕ) : Type 0 where
  pub binding : IsBinding link sent request head h events p transaction_id
  pub message : refusal reply ≡ None
  pub success : IsSuccessOf h connection_bind_method transaction_id reply
  pub part : IsPartOf head reply

-- The connection is bound.
pub record IsEnd (link : Link) (more : List ℕ) (h : Holder) (events : List TurnEvent) (p : Protocol) : Type 0 where
  pub older : List Request
  pub sent : ℕ
  pub is : IsBound h older (permitted_in link) link.local link.peer link.number sent (alive more) events p

-- The client waits for a socket for that connection ID and peer.
pub record IsWaitingFor (link : Link) (connection : ℕ) (socket : Socket5Tuple) (peer : SocketAddr) (h : Holder)
    (events : List TurnEvent) (p : Protocol) : Type 0 where
  pub number_is : connection ≡ link.number
  pub socket_is : socket ≡ own_tuple_of h
  pub peer_is : peer ≡ link.peer
  pub is : AwaitsSocket h (permitted_in link) link.number link.peer link.first events p

-- The state of the simulation at a position.
abbrev pub IsAtStep : Plan → World → SocketAddr → (lifetime : ℕ) → Link → Reached → World → Type 0
IsAtStep plan old address lifetime link Held w =
    IsHeldBy plan old address lifetime link [] (λ h events p. IsHolding h plan.second events p) w
IsAtStep plan old address lifetime link Requested w = IsHeldBy plan old address lifetime link []
    (λ h events p. OfNumber (λ transaction_id. IsRequested link plan.second h events p transaction_id)) w
IsAtStep plan old address lifetime link Unpermitted w = family_of_socket link.peer ≢ family_of_socket address
IsAtStep plan old address lifetime link (AskTransmitted request) w = IsHeldBy plan old address lifetime link []
    (λ h events p. OfNumber (λ transaction_id. IsAskTransmitted link request h events p transaction_id)) w
IsAtStep plan old address lifetime link (Permitting request reply head) w = IsHeldBy plan old address lifetime link head
    (λ h events p. OfNumber (λ transaction_id. IsPermitting link request reply head h events p transaction_id)) w
IsAtStep plan old address lifetime link Permitted w = IsHeldBy plan old address lifetime link []
    (λ h events p. IsPermitted link h events p) w
IsAtStep plan old address lifetime link Called w = IsHeldBy plan old address lifetime link []
    (λ h events p. OfNumber (λ transaction_id.
    HasRequestedConnect h (permitted_in link) link.peer transaction_id link.made link.granted events p)) w
IsAtStep plan old address lifetime link (Transmitted request) w = IsHeldBy plan old address lifetime link []
    (λ h events p. OfNumber (λ transaction_id. IsTransmittedFor link request h events p transaction_id)) w
IsAtStep plan old address lifetime link (Reported request reply head) w = IsHeldBy plan old address lifetime link head
    (λ h events p. OfNumber (λ transaction_id. IsReported link request reply head h events p transaction_id)) w
IsAtStep plan old address lifetime link Known w = IsHeldBy plan old address lifetime link []
    (λ h events p. HasLearned h (permitted_in link) link.number link.peer link.first events p) w
IsAtStep plan old address lifetime link Clear w = IsHeldBy plan old address lifetime link []
    (λ h events p. (events ≡ []) × HasLearned h (permitted_in link) link.number link.peer link.first events p) w
IsAtStep plan old address lifetime link Eventful w = IsHeldBy plan old address lifetime link []
    (λ h events p. (events ≢ []) × HasLearned h (permitted_in link) link.number link.peer link.first events p) w
IsAtStep plan old address lifetime link (Waiting connection socket peer) w = IsHeldBy plan old address lifetime link []
    (λ h events p. IsWaitingFor link connection socket peer h events p) w
IsAtStep plan old address lifetime link (Opened last) w = IsHeldBy plan old address lifetime link []
    (λ h events p. OfNumber (λ transaction_id. IsOpened link last h events p transaction_id)) w
IsAtStep plan old address lifetime link (Binding sent request) w = IsHeldBy plan old address lifetime link []
    (λ h events p. OfNumber (λ transaction_id. IsBinding link sent request [] h events p transaction_id)) w
IsAtStep plan old address lifetime link (Answered sent request reply head) w = IsHeldBy plan old address lifetime link []
    (λ h events p. OfNumber (λ transaction_id. IsAnswered link sent request reply head h events p transaction_id)) w
IsAtStep plan old address lifetime link (Bound more) w = IsHeldBy plan old address lifetime link []
    (λ h events p. IsEnd link more h events p) w
IsAtStep plan old address lifetime link Off w = ⊥
