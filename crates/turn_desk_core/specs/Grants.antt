-- What the reply to a request grants, for each method (RFC 8656, sections 7.2, 8.2, 10.2 and 12.2; RFC 6062,
-- sections 5.2 and 5.4).
use Rattle.std.specs.Prelude.{◌≡◌, ℕ, true, List, [], ◌∷◌, Some}
use Rattle.std.specs.declared.net.socket_addr.SocketAddr.{SocketAddr}
use Rattle.stun_types_base.specs.declared.transport.TransportType.{TransportType}
use Rattle.stun_types_wire.specs.Attributes.{Attr, kind_at}
use Rattle.stun_types_wire.specs.Types.{method_of}
use Rattle.stun_types_wire.specs.Grammar.{number_at}
use Rattle.turn_desk_core.specs.Replies.{allocated_attributes}
use Rattle.turn_desk_core.specs.Granted.{connected_attributes, granted_attributes, refreshed_attributes}
use Rattle.turn_types_attributes.specs.TurnRegistry.{allocate_method, channel_bind_method, connect_method, connection_bind_method, create_permission_method, refresh_method}
use Rattle.turn_desk_core.specs.declared.decision.Decision.{Decision}
use Rattle.turn_desk_core.specs.declared.decision.Decision.TheVariants as by
use Rattle.turn_desk_core.specs.declared.grant.Grant as granted
use Rattle.turn_desk_core.specs.RequestedFor.{channel_requested, connection_requested, peer_requested, peers_requested, transport_requested}
use Rattle.turn_desk_core.specs.Verdicts.{are_relayable, bare_grant}

-- An ALLOCATE gets the addresses that the decision gives, one or two of different families, for the requested
-- transport, with the lifetime that the decision gives. The success response has them as attributes.
pub record IsAllocated (bytes : List ℕ) (from : SocketAddr) (decision : Decision) (shows : List Attr)
    (grant : granted.Grant) : Type 0 where
  pub method : method_of (kind_at bytes) ≡ allocate_method
  pub transport : TransportType
  pub requested : transport_requested bytes ≡ Some transport
  pub relayed : List SocketAddr
  pub lifetime : ℕ
  pub decided : decision ≡ by.Allocate relayed lifetime
  pub fits : are_relayable relayed ≡ true
  pub visible : shows ≡ allocated_attributes (number_at bytes) relayed lifetime from
  pub stored : grant ≡ record (bare_grant bytes from) {
    transport = Some transport;
    relayed = relayed;
    lifetime = Some lifetime;
  }

-- A REFRESH gets the lifetime that the decision gives, whatever it requested. The success response has it as
-- an attribute.
pub record IsRefreshed (bytes : List ℕ) (from : SocketAddr) (decision : Decision) (shows : List Attr)
    (grant : granted.Grant) : Type 0 where
  pub method : method_of (kind_at bytes) ≡ refresh_method
  pub lifetime : ℕ
  pub decided : decision ≡ by.Refresh lifetime
  pub visible : shows ≡ refreshed_attributes lifetime
  pub stored : grant ≡ record (bare_grant bytes from) { lifetime = Some lifetime }

-- A CREATE_PERMISSION gets permissions for all the peers that it names.
pub record IsPermitted (bytes : List ℕ) (from : SocketAddr) (decision : Decision) (shows : List Attr)
    (grant : granted.Grant) : Type 0 where
  pub method : method_of (kind_at bytes) ≡ create_permission_method
  pub peers : List SocketAddr
  pub requested : peers_requested bytes ≡ Some peers
  pub decided : decision ≡ by.Grant
  pub visible : shows ≡ granted_attributes
  pub stored : grant ≡ record (bare_grant bytes from) { peers = peers }

-- A CHANNEL_BIND gets the channel that it names, to the peer that it names.
pub record IsBound (bytes : List ℕ) (from : SocketAddr) (decision : Decision) (shows : List Attr)
    (grant : granted.Grant) : Type 0 where
  pub method : method_of (kind_at bytes) ≡ channel_bind_method
  pub channel : ℕ
  pub requested : channel_requested bytes ≡ Some channel
  pub peer : SocketAddr
  pub peer_is : peer_requested bytes ≡ Some peer
  pub decided : decision ≡ by.Grant
  pub visible : shows ≡ granted_attributes
  pub stored : grant ≡ record (bare_grant bytes from) { peers = peer ∷ []; channel = Some channel }

-- A CONNECT gets a connection to the peer that it names, with the ID that the decision gives. The success
-- response has the ID as an attribute.
pub record IsConnected (bytes : List ℕ) (from : SocketAddr) (decision : Decision) (shows : List Attr)
    (grant : granted.Grant) : Type 0 where
  pub method : method_of (kind_at bytes) ≡ connect_method
  pub peer : SocketAddr
  pub requested : peer_requested bytes ≡ Some peer
  pub connection : ℕ
  pub decided : decision ≡ by.Connect connection
  pub visible : shows ≡ connected_attributes connection
  pub stored : grant ≡ record (bare_grant bytes from) { peers = peer ∷ []; connection = Some connection }

-- A CONNECTION_BIND gets the connection with the ID that it names.
pub record IsJoined (bytes : List ℕ) (from : SocketAddr) (decision : Decision) (shows : List Attr)
    (grant : granted.Grant) : Type 0 where
  pub method : method_of (kind_at bytes) ≡ connection_bind_method
  pub connection : ℕ
  pub requested : connection_requested bytes ≡ Some connection
  pub decided : decision ≡ by.Grant
  pub visible : shows ≡ granted_attributes
  pub stored : grant ≡ record (bare_grant bytes from) { connection = Some connection }

-- The decision grants this to the request from the address; `shows` are the attributes of the success
-- response.
pub data IsGrant (bytes : List ℕ) (from : SocketAddr) (decision : Decision) (shows : List Attr)
    (grant : granted.Grant) : Type 0 where
  Allocated : IsAllocated bytes from decision shows grant → IsGrant bytes from decision shows grant
  Refreshed : IsRefreshed bytes from decision shows grant → IsGrant bytes from decision shows grant
  Permitted : IsPermitted bytes from decision shows grant → IsGrant bytes from decision shows grant
  Bound : IsBound bytes from decision shows grant → IsGrant bytes from decision shows grant
  Connected : IsConnected bytes from decision shows grant → IsGrant bytes from decision shows grant
  Joined : IsJoined bytes from decision shows grant → IsGrant bytes from decision shows grant
