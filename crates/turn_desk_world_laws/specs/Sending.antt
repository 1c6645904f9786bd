-- What a server takes from the bytes by which a client sends to a peer (RFC 8656, sections 11.2, 12.4 to
-- 12.6, 18.3 and 18.4; RFC 6062, section 4.5).
use Rattle.std.specs.Prelude.{◌≡◌, ◌⊎◌, ℕ, ◌+◌, ◌≤◌, false, List, [], ◌∷◌, length, Some, None}
use Rattle.std.specs.List.{AllByRecursion}
use Rattle.std.specs.declared.net.ip_addr.IpAddr.{IpAddr}
use Rattle.std.specs.declared.net.socket_addr.SocketAddr.{SocketAddr}
use Rattle.turn_client_proto_messages.specs.StunTypesBase.declared.transport.TransportType.{TransportType}
use Rattle.turn_client_proto_messages.specs.StunTypesBase.declared.transport.TransportType.TheVariants.{Tcp, Udp}
use Rattle.turn_client_proto_messages.specs.StunTypesWire.Attributes.{Attr, kind_at, length_at}
use Rattle.turn_client_proto_messages.specs.StunTypesWire.Grammar.{number_at, refusal}
use Rattle.turn_client_proto_messages.specs.StunTypesWire.Types.{class_of, method_of}
use Rattle.turn_client_proto_messages.specs.StunTypesWire.declared.class.MessageClass.TheVariants.{Indication}
use Rattle.turn_client_proto_messages.specs.TurnTypesAttributes.TurnRegistry.{channel_header_size, data_kind, greatest_channel, least_channel, send_method, xor_peer_address_kind}
use Rattle.turn_client_proto_messages.specs.TurnTypesFrame.Frames.{IsChannelFrame}
use Rattle.turn_client_proto_messages.specs.TurnTypesPeer.TurnShows.{address_in, each_visible}
use Rattle.turn_client_proto_messages.specs.TurnTypesAttributes.StunTypesAttributes.Addresses.{on_the_wire}
use Rattle.turn_client_proto_messages.specs.TurnRuns.Indications.{shows_unexpected}
use Rattle.turn_client_proto_messages.specs.TurnRuns.Members.{IsIn}
use Rattle.turn_client_proto_messages.specs.Allocation.declared.allocation.Allocation.{Allocation}
use Rattle.turn_client_proto_messages.specs.Allocation.declared.channel.Channel.{Channel}
use Rattle.turn_client_proto_messages.specs.Allocation.declared.connection.Connection.{Connection}
use Rattle.turn_client_proto_messages.specs.Allocation.declared.permission.Permission.{Permission}
use Rattle.turn_client_proto_api.specs.Sent.{Sent}
use Rattle.turn_client_proto_core.specs.declared.protocol.Protocol.{Protocol}
use Rattle.turn_client_proto_progress_laws.specs.Holding.{IsFrameOf}
use Rattle.turn_client_proto_messages.specs.TurnRuns.Messages as grant
use Rattle.turn_client_proto_messages.specs.TurnRuns.Runs.{Step}
use Rattle.turn_client_proto_step_laws.specs.RunClient.{Client}
use Rattle.turn_desk_step_laws.specs.DeskRun.{DeskCall}
use Rattle.turn_desk_world_laws.specs.Safety.{WasGranted}

-- The bytes are a SEND indication to this peer with these bytes. The message has one visible
-- XOR-PEER-ADDRESS, which is decoded as the peer, and one visible DATA, whose value are the bytes. No
-- other attribute that a server has to understand is visible.
pub record IsSendOf (peer : SocketAddr) (bytes text : List ℕ) : Type 0 where
  pub message : refusal text ≡ None
  pub class : class_of (kind_at text) ≡ Indication
  pub method : method_of (kind_at text) ≡ send_method
  pub of : Attr
  pub one_peer : each_visible xor_peer_address_kind text ≡ of ∷ []
  pub names : address_in (number_at text) of ≡ Some peer
  pub given : Attr
  pub one_data : each_visible data_kind text ≡ given ∷ []
  pub carries : given.value ≡ bytes
  pub expected : shows_unexpected text ≡ false

-- Nothing follows the frame. In a datagram it ends with its data, and in a stream with its padding (RFC
-- 8656, section 12.5).
abbrev pub IsAlone : TransportType → List ℕ → Type 0
IsAlone Udp text = length text ≡ channel_header_size + length_at text
IsAlone Tcp text = IsChannelFrame text

-- ---- what a client holds

-- The channel has a channel number (RFC 8656, section 12).
abbrev pub IsNumbered : Channel → Type 0
IsNumbered c = (least_channel ≤ c.number) × (c.number ≤ greatest_channel)

abbrev pub AreNumbered : List Allocation → Type 0
AreNumbered allocations = AllByRecursion (λ a. AllByRecursion IsNumbered a.channels) allocations

-- In an allocation over this transport the client has the channel with this number to this peer, and the
-- channel hasn't expired at `now`.
pub record HasChannel (p : Protocol) (transport : TransportType) (number : ℕ) (peer : SocketAddr) (now : ℕ)
    : Type 0 where
  pub allocation : Allocation
  pub of : IsIn allocation p.allocations
  pub over : allocation.transport ≡ transport
  pub channel : Channel
  pub bound : IsIn channel allocation.channels
  pub number_is : channel.number ≡ number
  pub to : channel.peer ≡ peer
  pub active : now ≤ channel.expiry

-- In an allocation over TCP the client has a data connection with this local address, which is bound to
-- this peer (RFC 6062, section 4.3).
pub record HasConnection (p : Protocol) (here peer : SocketAddr) : Type 0 where
  pub allocation : Allocation
  pub of : IsIn allocation p.allocations
  pub over : allocation.transport ≡ Tcp
  pub connection : Connection
  pub stored : IsIn connection allocation.connections
  pub here_is : connection.here ≡ here
  pub to : connection.peer ≡ peer
  pub bound : connection.awaited ≡ None

-- In an allocation over this transport that isn't marked as expired, the client has a permission for the
-- address (RFC 8656, section 9).
pub record HasPermission (p : Protocol) (transport : TransportType) (ip : IpAddr) : Type 0 where
  pub allocation : Allocation
  pub of : IsIn allocation p.allocations
  pub over : allocation.transport ≡ transport
  pub occurs : allocation.is_expired ≡ false
  pub permission : Permission
  pub active : IsIn permission allocation.permissions
  pub ip_is : permission.ip ≡ ip

-- ---- to whom something is sent

-- It is sent from the client's own address to its server, over the transport between the two.
pub record IsOnControl (p : Protocol) (sent : Sent) : Type 0 where
  pub from : sent.from ≡ p.agent.here
  pub to : sent.to ≡ p.server
  pub over : sent.transport ≡ p.agent.transport

-- It is one frame with these bytes, of a channel of the client's to this peer.
pub record IsByChannel (p : Protocol) (peer : SocketAddr) (bytes : List ℕ) (now : ℕ) (sent : Sent)
    : Type 0 where
  pub number : ℕ
  pub has : HasChannel p Udp number peer now
  pub frame : IsFrameOf number bytes sent.bytes
  pub alone : IsAlone p.agent.transport sent.bytes

-- It is these very bytes, to the server on a connection of the client's that is bound to this peer.
pub record IsByConnection (p : Protocol) (peer : SocketAddr) (bytes : List ℕ) (sent : Sent) : Type 0 where
  pub has : HasConnection p sent.from peer
  pub to : sent.to ≡ p.server
  pub over : sent.transport ≡ Tcp
  pub bytes_are : sent.bytes ≡ bytes

-- What is sent is for this peer, whom the server reaches by this transport, and carries these bytes. An
-- indication names a peer without flow information and scope, which XOR-PEER-ADDRESS doesn't carry.
abbrev pub IsMeantFor : TransportType → Protocol → SocketAddr → List ℕ → (now : ℕ) → Sent → Type 0
IsMeantFor Udp p peer bytes now sent =
    IsOnControl p sent × (IsSendOf (on_the_wire peer) bytes sent.bytes ⊎ IsByChannel p peer bytes now sent)
IsMeantFor Tcp p peer bytes now sent = IsByConnection p peer bytes sent

-- ---- to whom something is sent in a run

-- It is one frame with these bytes, of a channel to this peer that the server core granted in the run
-- (`WasGranted`).
pub record IsByGrantedChannel (first : Client) (run : List (Step Client DeskCall)) (last : Client)
    (peer : SocketAddr) (bytes : List ℕ) (sent : Sent) : Type 0 where
  pub number : ℕ
  pub granted : WasGranted first run last (grant.Channel number peer)
  pub frame : IsFrameOf number bytes sent.bytes
  pub alone : IsAlone last.core.agent.transport sent.bytes

-- It is these very bytes, to the server on a connection that the server core bound to this peer in the run
-- (`WasGranted`). The connection has this connection ID.
pub record IsByGrantedConnection (first : Client) (run : List (Step Client DeskCall)) (last : Client)
    (peer : SocketAddr) (bytes : List ℕ) (sent : Sent) : Type 0 where
  pub number : ℕ
  pub granted : WasGranted first run last (grant.Connection sent.from peer number)
  pub to : sent.to ≡ last.core.server
  pub over : sent.transport ≡ Tcp
  pub bytes_are : sent.bytes ≡ bytes

-- What is sent at the end of the run is for this peer, whom the server reaches by this transport, and
-- carries these bytes.
abbrev pub IsMeantInRun : TransportType → (first : Client) → List (Step Client DeskCall) → (last : Client)
    → SocketAddr → List ℕ → Sent → Type 0
IsMeantInRun Udp first run last peer bytes sent =
    IsOnControl last.core sent
    × (IsSendOf (on_the_wire peer) bytes sent.bytes ⊎ IsByGrantedChannel first run last peer bytes sent)
IsMeantInRun Tcp first run last peer bytes sent = IsByGrantedConnection first run last peer bytes sent
