-- The stages of a client that requests a connection to a peer, each by the client's state: a permission, a
-- CONNECT, a socket, and a CONNECTION_BIND (RFC 8656, section 10; RFC 6062, section 4.3).
use Rattle.std.specs.Prelude.{◌≡◌, ◌*◌, ℕ, false, List, [], ◌∷◌, Option, Some, None}
use Rattle.std.specs.declared.net.ip_addr.IpAddr.{IpAddr}
use Rattle.std.specs.declared.net.socket_addr.SocketAddr.{SocketAddr}
use Rattle.turn_client_proto_messages.specs.StunTypesBase.declared.transport.TransportType.TheVariants.{Tcp}
use Rattle.turn_client_proto_messages.specs.StunTypesBase.Times.{time_after}
use Rattle.turn_client_proto_messages.specs.TurnTypesFrame.Streams.{Stream, alive}
use Rattle.turn_client_proto_messages.specs.Allocation.Refreshing.{second}
use Rattle.turn_client_proto_messages.specs.Allocation.declared.allocation.Allocation.{Allocation}
use Rattle.turn_client_proto_messages.specs.Allocation.declared.connection.Binding.{Binding}
use Rattle.turn_client_proto_messages.specs.Allocation.declared.connection.Connecting.{Connecting}
use Rattle.turn_client_proto_messages.specs.Allocation.declared.connection.Connection.{Connection}
use Rattle.turn_client_proto_messages.specs.Allocation.declared.connection.Waiting.{Waiting}
use Rattle.turn_client_proto_messages.specs.Allocation.declared.permission.PendingPermission.{PendingPermission}
use Rattle.turn_client_proto_messages.specs.Allocation.declared.permission.Permission.{Permission}
use Rattle.turn_client_proto_messages.specs.Api.declared.answer.Socket5Tuple.{Socket5Tuple}
use Rattle.turn_client_proto_messages.specs.Api.declared.event.TurnEvent.{TurnEvent}
use Rattle.turn_client_proto_step_laws.specs.Connection.Reported.{waiting_for}
use Rattle.turn_client_proto_step_laws.specs.Connection.Waiting.{requested}
use Rattle.turn_client_proto_messages.specs.declared.request.TurnRequest.TheVariants.{Connect}
use Rattle.turn_client_proto_messages.specs.declared.request.TurnRequest.TheVariants.{ConnectionBind}
use Rattle.turn_client_proto_messages.specs.declared.request.TurnRequest.TheVariants.{CreatePermission}
use Rattle.turn_client_proto_messages.specs.Waiting.{Queued}
use Rattle.turn_client_proto_handshake_laws.specs.Core.declared.protocol.Phase.TheVariants.{Authenticated}
use Rattle.turn_client_proto_handshake_laws.specs.Core.declared.protocol.Protocol.{Protocol}
use Rattle.turn_client_proto_step_laws.specs.Peers.Permission.Granted.{granted_for}
use Rattle.turn_client_proto_step_laws.specs.Recv.Sockets.{binding_time}
use Rattle.turn_client_proto_handshake_laws.specs.Requested.{Requested}
use Rattle.turn_client_proto_handshake_laws.specs.Stages.{IsOf}
use Rattle.turn_client_proto_progress_laws.specs.Holders.{AreOutstanding, CanSign, Holder, queued_from, signed_by}

-- ---- what each stage stores

-- The client's allocation with these active and pending permissions, and with these connections that are
-- requested, wait for a socket, or have one.
abbrev pub allocation_with : Holder → List Permission → List PendingPermission → List Connecting → List Waiting
    → List Connection → Allocation
allocation_with h permissions pending connecting waiting connections = record {
  transport = Tcp;
  address = h.address;
  renewal_lifetime = h.lifetime;
  expiry = time_after h.since (h.lifetime * second);
  is_expired = false;
  permissions = permissions;
  channels = [];
  pending_permissions = pending;
  pending_channels = [];
  pending_refreshes = [];
  expired_channels = [];
  connecting = connecting;
  waiting = waiting;
  connections = connections;
}

-- The client holds this one allocation. It awaits the response to a request, if there is one, and earlier
-- requests may be outstanding. The last message was transmitted at `last`, and these messages and events are
-- queued.
pub record IsTcpBinding (h : Holder) (awaited : Option Requested) (older : List Requested) (a : Allocation) (queue : List Queued)
    (last : ℕ) (events : List TurnEvent) (p : Protocol) : Type 0 where
  pub settings : IsOf h.started p
  pub signs : CanSign h
  pub outstanding : AreOutstanding h.started awaited older p.agent
  pub phase : p.phase ≡ Authenticated
  pub auth_is : p.auth ≡ h.auth
  pub allocations : p.allocations ≡ a ∷ []
  pub queue_is : p.queue ≡ queue
  pub last_send : p.last_send ≡ Some last
  pub events_are : p.events ≡ events
  pub closing : p.closing ≡ []

-- ---- a permission

-- The allocation has nothing, and nothing is requested.
abbrev pub IsHolding : Holder → (last : ℕ) → List TurnEvent → Protocol → Type 0
IsHolding h last events p = IsTcpBinding h None [] (allocation_with h [] [] [] [] []) [] last events p

-- A CREATE_PERMISSION for this IP.
abbrev pub permission_request : Holder → IpAddr → (transaction_id made : ℕ) → Requested
permission_request h ip transaction_id made = signed_by h (CreatePermission (ip ∷ [])) transaction_id made

-- An allocation with a pending permission for this IP, requested with this transaction ID.
abbrev pub permitting : Holder → IpAddr → (transaction_id : ℕ) → Allocation
permitting h ip transaction_id = allocation_with h [] (record { ip = ip; others = []; numbers = transaction_id ∷ [] } ∷ []) [] [] []

-- The permission was requested, and the request is queued.
abbrev pub HasRequestedPermission : Holder → IpAddr → (transaction_id made last : ℕ) → List TurnEvent → Protocol → Type 0
HasRequestedPermission h ip transaction_id made last events p = IsTcpBinding h (Some (permission_request h ip transaction_id made)) []
    (permitting h ip transaction_id) (queued_from h.started.here (permission_request h ip transaction_id made) ∷ []) last events p

-- The permission was requested, and the request was transmitted.
abbrev pub HasSentPermission : Holder → IpAddr → (transaction_id made last : ℕ) → List TurnEvent → Protocol → Type 0
HasSentPermission h ip transaction_id made last events p =
    IsTcpBinding h (Some (permission_request h ip transaction_id made)) [] (permitting h ip transaction_id) [] last events p

-- The permission, granted at this time, is the only active one, and nothing is requested.
abbrev pub IsReady : Holder → IpAddr → (granted last : ℕ) → List TurnEvent → Protocol → Type 0
IsReady h ip granted last events p =
    IsTcpBinding h None [] (allocation_with h (granted_for ip granted ∷ []) [] [] [] []) [] last events p

-- ---- a connection

-- A CONNECT to this peer.
abbrev pub connect_request : Holder → SocketAddr → (transaction_id made : ℕ) → Requested
connect_request h peer transaction_id made = signed_by h (Connect peer) transaction_id made

-- An allocation with a pending connection to this peer, requested with this transaction ID.
abbrev pub connecting_to : Holder → List Permission → SocketAddr → (transaction_id : ℕ) → Allocation
connecting_to h permissions peer transaction_id =
    allocation_with h permissions [] (record { number = transaction_id; peer = peer } ∷ []) [] []

-- The connection was requested, and the request is queued.
abbrev pub HasRequestedConnect : Holder → List Permission → SocketAddr → (transaction_id made last : ℕ) → List TurnEvent → Protocol
    → Type 0
HasRequestedConnect h permissions peer transaction_id made last events p = IsTcpBinding h (Some (connect_request h peer transaction_id made)) []
    (connecting_to h permissions peer transaction_id) (queued_from h.started.here (connect_request h peer transaction_id made) ∷ [])
    last events p

-- The connection was requested, and the request was transmitted.
abbrev pub HasSentConnect : Holder → List Permission → SocketAddr → (transaction_id made last : ℕ) → List TurnEvent → Protocol
    → Type 0
HasSentConnect h permissions peer transaction_id made last events p = IsTcpBinding h (Some (connect_request h peer transaction_id made)) []
    (connecting_to h permissions peer transaction_id) [] last events p

-- The connection ID is known, and the socket is still to be requested from the caller.
abbrev pub HasLearned : Holder → List Permission → (connection : ℕ) → SocketAddr → (last : ℕ) → List TurnEvent → Protocol
    → Type 0
HasLearned h permissions connection peer last events p =
    IsTcpBinding h None [] (allocation_with h permissions [] [] (waiting_for connection peer ∷ []) []) [] last events p

-- The socket was requested from the caller.
abbrev pub AwaitsSocket : Holder → List Permission → (connection : ℕ) → SocketAddr → (last : ℕ) → List TurnEvent
    → Protocol → Type 0
AwaitsSocket h permissions connection peer last events p =
    IsTcpBinding h None [] (allocation_with h permissions [] [] (requested (waiting_for connection peer) ∷ []) []) [] last events p

-- ---- its socket

-- The client's own connection to the server.
abbrev pub own_tuple_of : Holder → Socket5Tuple
own_tuple_of h = record { transport = h.started.transport; from = h.started.here; to = h.started.server }

-- A CONNECTION_BIND for this connection ID.
abbrev pub bind_request : Holder → (connection transaction_id made : ℕ) → Requested
bind_request h connection transaction_id made = signed_by h (ConnectionBind connection) transaction_id made

-- What is awaited of a CONNECTION_BIND that was made at this time.
abbrev pub awaited_of : (transaction_id made : ℕ) → Binding
awaited_of transaction_id made = record { number = transaction_id; expiry = time_after made binding_time }

-- A connection to this peer, with this connection ID, whose socket has this own address. It is to be bound by
-- the response to the CONNECTION_BIND, and the first bytes `head` of a message have come over its socket.
abbrev pub joining : (here peer : SocketAddr) → (connection transaction_id made : ℕ) → (head : List ℕ) → Connection
joining here peer connection transaction_id made head = record {
  here = here;
  peer = peer;
  connection = connection;
  awaited = Some (awaited_of transaction_id made);
  stream = alive head;
}

-- The connection is bound, and buffers this of what came over its socket.
abbrev pub joined_by : (here peer : SocketAddr) → (connection : ℕ) → Stream → Connection
joined_by here peer connection stream =
    record { here = here; peer = peer; connection = connection; awaited = None; stream = stream }

-- An allocation with this connection alone.
abbrev pub allocation_of : Holder → List Permission → Connection → Allocation
allocation_of h permissions c = allocation_with h permissions [] [] [] (c ∷ [])

-- The socket was given, and the CONNECTION_BIND is queued. Earlier requests may be outstanding.
abbrev pub HasRequestedBind : Holder → List Requested → List Permission → (here peer : SocketAddr) → (connection transaction_id made last : ℕ)
    → List TurnEvent → Protocol → Type 0
HasRequestedBind h older permissions here peer connection transaction_id made last events p =
    IsTcpBinding h (Some (bind_request h connection transaction_id made)) older
    (allocation_of h permissions (joining here peer connection transaction_id made []))
    (queued_from here (bind_request h connection transaction_id made) ∷ []) last events p

-- The CONNECTION_BIND was transmitted, and the first bytes `head` of the response have come over the socket.
abbrev pub HasSentBind : Holder → List Requested → List Permission → (here peer : SocketAddr) → (connection transaction_id made last : ℕ)
    → (head : List ℕ) → List TurnEvent → Protocol → Type 0
HasSentBind h older permissions here peer connection transaction_id made last head events p =
    IsTcpBinding h (Some (bind_request h connection transaction_id made)) older
    (allocation_of h permissions (joining here peer connection transaction_id made head)) [] last events p

-- The connection is bound. Its socket has brought this, which comes from its peer.
abbrev pub IsBound : Holder → List Requested → List Permission → (here peer : SocketAddr) → (connection last : ℕ) → Stream
    → List TurnEvent → Protocol → Type 0
IsBound h older permissions here peer connection last stream events p =
    IsTcpBinding h None older (allocation_of h permissions (joined_by here peer connection stream)) [] last events p
