-- What it comes to that a client requests a connection to a peer over an honest network (RFC 6062, section
-- 4.3).
use Rattle.std.specs.Prelude.{◌≡◌, ◌≢◌, ℕ, true, List, [], ◌∷◌, Some, None}
use Rattle.std.specs.declared.net.socket_addr.SocketAddr.{SocketAddr}
use Rattle.turn_desk_core.specs.StunTypesWire.Attributes.{kind_at}
use Rattle.turn_desk_core.specs.StunTypesBase.Family.{family_of_socket}
use Rattle.turn_desk_core.specs.StunTypesWire.Grammar.{number_at, refusal}
use Rattle.turn_desk_core.specs.StunTypesWire.declared.algorithm.IntegrityAlgorithm.{IntegrityAlgorithm}
use Rattle.turn_desk_core.specs.StunTypesWire.declared.class.MessageClass.TheVariants.{Success}
use Rattle.turn_desk_core.specs.StunTypesWire.Types.{class_of, method_of}
use Rattle.turn_desk_core.specs.StunTypesBase.declared.transport.TransportType.TheVariants.{Tcp}
use Rattle.turn_client_proto_api.specs.StunProtoAuth.Claims.{claimed}
use Rattle.turn_client_proto_messages.specs.StunProtoClient.Digests.{IsRight}
use Rattle.turn_client_proto_api.specs.StunProtoAgent.Sending.{is_request}
use Rattle.turn_desk_core.specs.TurnTypesAttributes.TurnRegistry.{connect_method, connection_bind_method, create_permission_method}
use Rattle.turn_client_proto_api.specs.Sent.{Sent}
use Rattle.turn_client_proto_messages.specs.ReportedRequests.{reported_request}
use Rattle.turn_client_proto_messages.specs.declared.request.TurnRequest.{TurnRequest}
use Rattle.turn_client_proto_messages.specs.declared.request.TurnRequest.TheVariants.{Connect, ConnectionBind}
use Rattle.turn_desk_world_laws.specs.TurnClientProtoConnection.Visible.{connections_listed}
use Rattle.turn_client_proto_step_laws.specs.Sound.{IsWhole}
use Rattle.turn_client_proto_messages.specs.TurnRuns.StunWire.{decoded_by}
use Rattle.turn_desk_world_laws.specs.World.Model.{World}
use Rattle.turn_desk_progress_laws.specs.Promises.{HasClient, key_in_realm}
use Rattle.turn_desk_progress_laws.specs.Scripts.{Plan}
use Rattle.turn_desk_progress_laws.specs.Links.{AskTransmitted, Requested, Answered, Binding, Bound, Called, Clear, Transmitted, Eventful}
use Rattle.turn_desk_progress_laws.specs.Links.{Held, Known, Link, Off}
use Rattle.turn_desk_progress_laws.specs.Links.{Opened, Permitted, Permitting, Reached, Reported, Unpermitted, Waiting}

-- The client and its allocation are over TCP.
pub record IsOverTcp (plan : Plan) : Type 0 where
  pub over : plan.client.transport ≡ Tcp
  pub relays : plan.client.config.transport ≡ Tcp

-- The request is sent from this local address to the server's. It is a message, a request with this method,
-- and valid under the user's key in the server core's realm, by an algorithm that it claims.
pub record IsSigned (plan : Plan) (old : World) (here : SocketAddr) (method : ℕ) (request : Sent) : Type 0 where
  pub transport : request.transport ≡ plan.client.transport
  pub from : request.from ≡ here
  pub to : request.to ≡ plan.client.server
  pub message : refusal request.bytes ≡ None
  pub request_is : is_request request.bytes ≡ true
  pub method_is : method_of (kind_at request.bytes) ≡ method
  pub algorithm : IntegrityAlgorithm
  pub claims : (claimed request.bytes).integrity ≡ Some algorithm
  pub right : IsRight request.bytes (key_in_realm plan old algorithm)

-- The request is for this.
abbrev pub Asks : TurnRequest → Sent → Type 0
Asks what request = decoded_by request.bytes ≡ reported_request what (number_at request.bytes)

-- The message is a success response to the request, valid under the user's key in the server core's realm, by
-- the request's algorithm.
pub record IsSuccessTo (plan : Plan) (old : World) (request : Sent) (reply : List ℕ) : Type 0 where
  pub message : refusal reply ≡ None
  pub number : number_at reply ≡ number_at request.bytes
  pub method : method_of (kind_at reply) ≡ method_of (kind_at request.bytes)
  pub success : class_of (kind_at reply) ≡ Success
  pub algorithm : IntegrityAlgorithm
  pub claims : (claimed request.bytes).integrity ≡ Some algorithm
  pub right : IsRight reply (key_in_realm plan old algorithm)

-- The client holds exactly this connection, with its local address, its peer and its connection ID, and it is
-- bound.
abbrev pub IsJoined : Plan → Link → World → Type 0
IsJoined plan link w = HasClient plan [] w
    (λ p. connections_listed p.allocations ≡ (link.local, link.peer, link.number, true) ∷ [])

-- What holds when a script has reached a position:
--
-- - `Unpermitted`: The permission is refused only if the peer is of another family than the allocation.
-- - `AskTransmitted`: A CREATE_PERMISSION was transmitted.
-- - `Transmitted`: A CONNECT was transmitted, which is to the peer if XOR-PEER-ADDRESS carries the peer
--   completely.
-- - `Eventful`: If no socket is requested, an event is queued.
-- - `Waiting`: A socket is requested for the connection ID that the server core decided, and for that peer.
-- - `Binding`: A CONNECTION_BIND of that connection ID was transmitted, from the socket.
-- - `Bound`: By its success response the connection is bound.
abbrev pub HasLinked : Plan → World → SocketAddr → Link → Reached → World → Type 0
HasLinked plan old address link Held new = Unit {0}
HasLinked plan old address link Requested new = Unit {0}
HasLinked plan old address link Unpermitted new = family_of_socket link.peer ≢ family_of_socket address
HasLinked plan old address link (AskTransmitted request) new =
    IsSigned plan old plan.client.here create_permission_method request
HasLinked plan old address link (Permitting request reply head) new = Unit {0}
HasLinked plan old address link Permitted new = Unit {0}
HasLinked plan old address link Called new = Unit {0}
HasLinked plan old address link (Transmitted request) new = IsSigned plan old plan.client.here connect_method request
    × (IsWhole link.peer → Asks (Connect link.peer) request)
HasLinked plan old address link (Reported request reply head) new = Unit {0}
HasLinked plan old address link Known new = Unit {0}
HasLinked plan old address link Clear new = Unit {0}
HasLinked plan old address link Eventful new = HasClient plan [] new (λ p. p.events ≢ [])
HasLinked plan old address link (Waiting connection socket peer) new = (connection ≡ link.number)
    × (socket ≡ record { transport = plan.client.transport; from = plan.client.here; to = plan.client.server })
    × (peer ≡ link.peer)
HasLinked plan old address link (Opened last) new = Unit {0}
HasLinked plan old address link (Binding sent request) new = IsSigned plan old link.local connection_bind_method request
    × Asks (ConnectionBind link.number) request
HasLinked plan old address link (Answered sent request reply head) new = Unit {0}
HasLinked plan old address link (Bound more) new = IsJoined plan link new
HasLinked plan old address link Off new = ⊥
