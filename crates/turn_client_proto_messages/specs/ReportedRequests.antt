-- What a receiver decodes from a request (RFC 8656, section 18; RFC 6062, section 6.2).
use Rattle.std.specs.Prelude.{◌≡◌, ℕ, ◌<◌, ◌≤◌, ◌^◌, List, [], ◌∷◌, length, map, Some, None}
use Rattle.std.specs.List.{AllByRecursion}
use Rattle.std.specs.Net.Addr.{IsIpv4Addr, IsIpv6Addr, MatchIp}
use Rattle.std.specs.declared.net.ip_addr.IpAddr.{IpAddr}
use Rattle.std.specs.declared.net.socket_addr.SocketAddr.{SocketAddr}
use Rattle.stun_types_base.specs.declared.family.AddressFamily.{AddressFamily}
use Rattle.stun_types_wire.specs.declared.class.MessageClass.TheVariants.{Request}
use Rattle.turn_runs.specs.Messages as run
use Rattle.turn_types_attributes.specs.TurnRegistry.{allocate_method, channel_bind_method, connect_method, connection_bind_method, create_permission_method, refresh_method}
use Rattle.turn_types_peer.specs.TurnShows.{address_in}
use Rattle.turn_client_proto_api.specs.declared.options.AllocateOptions.{AllocateOptions}
use Rattle.turn_client_proto_api.specs.Limits.{most_peer_ips}
use Rattle.turn_client_proto_messages.specs.Requests.{peer_attribute, peer_of}
use Rattle.turn_client_proto_messages.specs.declared.request.TurnRequest.{TurnRequest}
use Rattle.turn_client_proto_messages.specs.declared.request.TurnRequest.TheVariants.{FirstAllocate, Allocate, Refresh, CreatePermission, ChannelBind, Connect, ConnectionBind}

-- A request with this method and transaction ID, and no attributes.
abbrev pub bare_request : ℕ → ℕ → run.Message
bare_request method transaction_id = record {
  class = Request;
  method = method;
  number = transaction_id;
  transport = None;
  relayed = [];
  lifetime = None;
  peers = [];
  channel = None;
  connection = None;
}

-- What a receiver decodes from a request with this transaction ID about allocations, permissions, channels
-- and connections.
abbrev pub reported_request : TurnRequest → ℕ → run.Message
reported_request (FirstAllocate transport families options) transaction_id = record (bare_request allocate_method transaction_id) {
  transport = Some transport;
  lifetime = Some options.lifetime;
}
reported_request (Allocate transport families options) transaction_id = record (bare_request allocate_method transaction_id) {
  transport = Some transport;
  lifetime = Some options.lifetime;
}
reported_request (Refresh lifetime) transaction_id = record (bare_request refresh_method transaction_id) { lifetime = Some lifetime }
reported_request (CreatePermission ips) transaction_id =
    record (bare_request create_permission_method transaction_id) { peers = map peer_of ips }
reported_request (ChannelBind channel peer) transaction_id =
    record (bare_request channel_bind_method transaction_id) { channel = Some channel; peers = peer ∷ [] }
reported_request (Connect peer) transaction_id = record (bare_request connect_method transaction_id) { peers = peer ∷ [] }
reported_request (ConnectionBind connection) transaction_id =
    record (bare_request connection_bind_method transaction_id) { connection = Some connection }

-- The address is decoded unchanged from its XOR-PEER-ADDRESS under this transaction ID. This holds for an
-- address without flow information and scope.
abbrev pub IsReadBack : ℕ → SocketAddr → Type 0
IsReadBack transaction_id peer = address_in transaction_id (peer_attribute transaction_id peer) ≡ Some peer

-- The peer that the request names is decoded unchanged under this transaction ID.
abbrev pub CanBeRead : TurnRequest → ℕ → Type 0
CanBeRead (ChannelBind channel peer) transaction_id = IsReadBack transaction_id peer
CanBeRead (Connect peer) transaction_id = IsReadBack transaction_id peer
CanBeRead _ transaction_id = Unit {0}

-- What the types of an ALLOCATE ensure: at most two families, and a lifetime that fits its bits.
pub record IsLawfulAllocate (families : List AddressFamily) (options : AllocateOptions) : Type 0 where
  pub few : length families ≤ 2
  pub fits : options.lifetime < 2 ^ 32

-- What the type of an IP address ensures: its octets, or its segments.
abbrev pub IsLawfulIp : IpAddr → Type 0
IsLawfulIp ip = MatchIp ip IsIpv4Addr IsIpv6Addr

-- What the types of a CREATE_PERMISSION ensure: at most `most_peer_ips` addresses, each with its octets or
-- segments.
pub record AreLawfulPeers (ips : List IpAddr) : Type 0 where
  pub few : length ips ≤ most_peer_ips
  pub each : AllByRecursion IsLawfulIp ips

-- What the types of a request ensure: at most two families, numbers that fit their bits, and octets or
-- segments that fit theirs.
abbrev pub IsLawfulRequest : TurnRequest → Type 0
IsLawfulRequest (FirstAllocate transport families options) = IsLawfulAllocate families options
IsLawfulRequest (Allocate transport families options) = IsLawfulAllocate families options
IsLawfulRequest (Refresh lifetime) = lifetime < 2 ^ 32
IsLawfulRequest (CreatePermission ips) = AreLawfulPeers ips
IsLawfulRequest (ChannelBind channel peer) = channel < 2 ^ 16
IsLawfulRequest (Connect peer) = Unit {0}
IsLawfulRequest (ConnectionBind connection) = connection < 2 ^ 32
