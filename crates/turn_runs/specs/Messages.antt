-- What messages show, what a client may hold, and which requests are for it (RFC 8656; RFC 6062).
use Rattle.std.specs.Prelude.{◌≡◌, ◌⊎◌, ℕ, List, [], ◌∷◌, Option, Some}
use Rattle.turn_runs.specs.Members.{IsIn}
use Rattle.turn_types_frame.specs.Attributes.TurnRegistry.{allocate_method, channel_bind_method, connect_method, connection_attempt_method, connection_bind_method, create_permission_method, refresh_method}
use Rattle.turn_runs.specs.Names.{SocketAddr, IpAddr, socket_ip, IcmpReport, TransportType, MessageClass, Request, Success, Error}

-- ---- what bytes show, as far as allocations, permissions, channels and connections go

pub record Message : Type 0 where
  pub class : MessageClass
  pub method : ℕ
  -- The transaction ID.
  pub number : ℕ
  -- REQUESTED-TRANSPORT.
  pub transport : Option TransportType
  -- Each XOR-RELAYED-ADDRESS, in order.
  pub relayed : List SocketAddr
  -- LIFETIME.
  pub lifetime : Option ℕ
  -- Each XOR-PEER-ADDRESS, in order.
  pub peers : List SocketAddr
  -- CHANNEL-NUMBER.
  pub channel : Option ℕ
  -- CONNECTION-ID.
  pub connection : Option ℕ

-- ---- what a client may hold

pub data Held : Type 0 where
  Allocation : (transport : TransportType) (address : SocketAddr) → Held
  Permission : (transport : TransportType) (ip : IpAddr) → Held
  Channel : (transaction_id : ℕ) (peer : SocketAddr) → Held
  Connection : (local peer : SocketAddr) (transaction_id : ℕ) → Held

-- What a response can bring the client: something that it holds, or the connection ID of a connection to a
-- peer.
pub data Gain : Type 0 where
  Holds : (held : Held) → Gain
  Knows : (transaction_id : ℕ) (peer : SocketAddr) → Gain

-- One of the peers has this IP address.
pub record HasIp (ip : IpAddr) (peers : List SocketAddr) : Type 0 where
  pub peer : SocketAddr
  pub listed : IsIn peer peers
  pub ip_is : socket_ip peer ≡ ip

-- A success response to a request of this method gives a permission: CREATE_PERMISSION or CHANNEL_BIND.
abbrev pub Permits : ℕ → Type 0
Permits method = (method ≡ create_permission_method) ⊎ (method ≡ channel_bind_method)

-- The request is for a permission for this IP address. It is a CREATE_PERMISSION of which at least one peer
-- has it, or a CHANNEL_BIND to one peer, which has it.
abbrev pub Opens : Message → IpAddr → Type 0
Opens m ip = ((m.method ≡ create_permission_method) × HasIp ip m.peers)
    ⊎ ((m.method ≡ channel_bind_method)
    × ((peer : SocketAddr) × (m.peers ≡ peer ∷ []) × (socket_ip peer ≡ ip)))

-- The request is for this.
abbrev pub Asks : Message → Gain → Type 0
Asks m (Holds (Allocation transport address)) =
    (m.method ≡ allocate_method) × (m.transport ≡ Some transport)
Asks m (Holds (Permission transport ip)) = Opens m ip
Asks m (Holds (Channel transaction_id peer)) =
    (m.method ≡ channel_bind_method) × (m.channel ≡ Some transaction_id) × (m.peers ≡ peer ∷ [])
Asks m (Holds (Connection local peer transaction_id)) =
    (m.method ≡ connection_bind_method) × (m.connection ≡ Some transaction_id)
Asks m (Knows transaction_id peer) = (m.method ≡ connect_method) × (m.peers ≡ peer ∷ [])

-- The class of a response: success or error.
abbrev pub IsResponse : MessageClass → Type 0
IsResponse class = (class ≡ Success) ⊎ (class ≡ Error)

-- The message is a CONNECTION_ATTEMPT: a request of the server, with a transaction ID of the server.
abbrev pub IsAttempt : Message → Type 0
IsAttempt m = (m.class ≡ Request) × (m.method ≡ connection_attempt_method)

-- The response brings this. An error response to a CONNECT may bring a connection ID, too: the client may
-- look at the CONNECTION-ID alone.
abbrev pub Brings : Message → Gain → Type 0
Brings m (Holds (Allocation transport address)) = (m.class ≡ Success) × IsIn address m.relayed
Brings m (Holds (Permission transport ip)) = m.class ≡ Success
Brings m (Holds (Channel transaction_id peer)) = m.class ≡ Success
Brings m (Holds (Connection local peer transaction_id)) = m.class ≡ Success
Brings m (Knows transaction_id peer) = IsResponse m.class × (m.connection ≡ Some transaction_id)

-- ---- grants

-- A grant as the server core recorded it.
pub record Grant : Type 0 where
  pub method : ℕ
  pub number : ℕ
  pub from : SocketAddr
  pub transport : Option TransportType
  pub relayed : List SocketAddr
  pub lifetime : Option ℕ
  pub peers : List SocketAddr
  pub channel : Option ℕ
  pub connection : Option ℕ

-- If the request names exactly one peer, the grant is for that peer. (If it names several, the first decides;
-- RFC 8489, section 14.)
abbrev pub IsOfOnePeer : Message → Grant → Type 0
IsOfOnePeer request grant = (peer : SocketAddr) → request.peers ≡ peer ∷ [] → grant.peers ≡ peer ∷ []

-- The grant is of what the request is for, and the response shows it.
pub record IsGrantFor (request response : Message) (grant : Grant) : Type 0 where
  pub method_answered : response.method ≡ request.method
  pub number_answered : response.number ≡ request.number
  pub method_is : grant.method ≡ request.method
  pub number_is : grant.number ≡ request.number
  pub allocates : request.method ≡ allocate_method →
      (grant.transport ≡ request.transport) × (response.relayed ≡ grant.relayed)
      × (response.lifetime ≡ grant.lifetime)
  pub refreshes : request.method ≡ refresh_method → response.lifetime ≡ grant.lifetime
  pub permits : request.method ≡ create_permission_method → grant.peers ≡ request.peers
  pub binds : request.method ≡ channel_bind_method →
      (grant.channel ≡ request.channel) × IsOfOnePeer request grant
  pub connects : request.method ≡ connect_method →
      IsOfOnePeer request grant × (response.connection ≡ grant.connection)
  pub attaches : request.method ≡ connection_bind_method → grant.connection ≡ request.connection

-- The grant is of this.
abbrev pub GrantIs : Grant → Gain → Type 0
GrantIs g (Holds (Allocation transport address)) =
    (g.method ≡ allocate_method) × (g.transport ≡ Some transport) × IsIn address g.relayed
GrantIs g (Holds (Permission transport ip)) = Permits g.method × HasIp ip g.peers
GrantIs g (Holds (Channel transaction_id peer)) =
    (g.method ≡ channel_bind_method) × (g.channel ≡ Some transaction_id) × (g.peers ≡ peer ∷ [])
GrantIs g (Holds (Connection local peer transaction_id)) =
    (g.method ≡ connection_bind_method) × (g.connection ≡ Some transaction_id)
GrantIs g (Knows transaction_id peer) =
    (g.method ≡ connect_method) × (g.peers ≡ peer ∷ []) × (g.connection ≡ Some transaction_id)

-- ---- payloads

pub data Payload : Type 0 where
  -- The data of a DATA indication, reported as from this peer.
  FromPeer : (transport : TransportType) (peer : SocketAddr) (bytes : List ℕ) → Payload
  -- The ICMP report of a host on the path to this peer, from a DATA indication.
  Reported : (transport : TransportType) (peer : SocketAddr) (report : IcmpReport) → Payload
  -- The data of a channel frame with this channel number, reported as from this peer.
  FromChannel : (transaction_id : ℕ) (peer : SocketAddr) (bytes : List ℕ) → Payload
  -- Raw data of the data connection with this local address, reported as from this peer.
  FromConnection : (local peer : SocketAddr) (bytes : List ℕ) → Payload

-- The payload names the peer of something that the client holds.
abbrev pub NamesHeld : Payload → Held → Type 0
NamesHeld (FromPeer transport peer bytes) h = h ≡ Permission transport (socket_ip peer)
NamesHeld (Reported transport peer report) h = h ≡ Permission transport (socket_ip peer)
NamesHeld (FromChannel transaction_id peer bytes) h = h ≡ Channel transaction_id peer
NamesHeld (FromConnection local peer bytes) h = (transaction_id : ℕ) × (h ≡ Connection local peer transaction_id)

-- ---- what a client reports as created

pub data Notice : Type 0 where
  AllocationCreated : (transport : TransportType) (address : SocketAddr) → Notice
  PermissionCreated : (transport : TransportType) (ip : IpAddr) → Notice
  ChannelCreated : (transport : TransportType) (peer : SocketAddr) → Notice
  TcpConnected : (peer : SocketAddr) → Notice

-- The notice is about this.
abbrev pub IsOf : Notice → Held → Type 0
IsOf (AllocationCreated transport address) h = h ≡ Allocation transport address
IsOf (PermissionCreated transport ip) h = h ≡ Permission transport ip
IsOf (ChannelCreated transport peer) h = (transaction_id : ℕ) × (h ≡ Channel transaction_id peer)
IsOf (TcpConnected peer) h = (local : SocketAddr) × (transaction_id : ℕ) × (h ≡ Connection local peer transaction_id)
