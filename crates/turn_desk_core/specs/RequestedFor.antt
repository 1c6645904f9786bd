-- What requests ask for (RFC 8656, sections 7.1, 8.1, 10.1, 12.1 and 18.8; RFC 6062, sections 4.3 and 4.4).
use Rattle.std.specs.Prelude.{ℕ, Bool, true, false, ◌==◌, List, [], ◌∷◌, slice_index, Option, Some, None, is_some, if◌then◌else◌}
use Rattle.std.specs.List.{filter_map, list_all}
use Rattle.std.specs.Option.{option_and_then, option_map}
use Rattle.std.specs.declared.net.socket_addr.SocketAddr.{SocketAddr}
use Rattle.stun_types_base.specs.declared.transport.TransportType.{TransportType}
use Rattle.stun_types_base.specs.declared.transport.TransportType.TheVariants.{Udp, Tcp}
use Rattle.stun_types_attributes.specs.Addresses.{address_again, address_of, address_read_refusal}
use Rattle.stun_types_attributes.specs.Xor.{xored}
use Rattle.byteorder.specs.Endian.{big_number}
use Rattle.stun_types_wire.specs.Attributes.{Attr, kind_at}
use Rattle.stun_types_wire.specs.Types.{method_of}
use Rattle.stun_types_wire.specs.Grammar.{number_at}
use Rattle.stun_types_write.specs.ValueReading.{value_refusal}
use Rattle.turn_types_peer.specs.TurnShows.{each_visible, first_visible, unless_refused}
use Rattle.turn_types_attributes.specs.TurnRegistry.{allocate_method, channel_bind_method, channel_number_kind, connect_method, connection_bind_method, connection_id_kind, create_permission_method, refresh_method, requested_transport_kind, tcp_protocol, udp_protocol, xor_peer_address_kind}
use Rattle.turn_desk_core.specs.declared.requested.Requested.{Requested}
use Rattle.turn_desk_core.specs.declared.requested.Requested.TheVariants.{Allocation, Refreshment, Permissions, Channel, Connection, Binding}

-- The transport of an IP protocol number, if it is UDP or TCP.
abbrev pub protocol_transport : ℕ → Option TransportType
protocol_transport protocol = if protocol == udp_protocol then Some Udp
    else if protocol == tcp_protocol then Some Tcp
    else None

-- The transport that a REQUESTED-TRANSPORT names, if it is well formed.
abbrev pub transport_in : Attr → Option TransportType
transport_in a = unless_refused (value_refusal requested_transport_kind 4 4 a)
    (protocol_transport (slice_index a.value 0))

-- The channel number in a CHANNEL-NUMBER, if it is well formed.
abbrev pub channel_in : Attr → Option ℕ
channel_in a = unless_refused (value_refusal channel_number_kind 4 4 a) (Some (big_number 2 a.value))

-- The connection ID in a CONNECTION-ID, if it is well formed.
abbrev pub connection_in : Attr → Option ℕ
connection_in a = unless_refused (value_refusal connection_id_kind 4 4 a) (Some (big_number 4 a.value))

-- The address in a XOR-PEER-ADDRESS of a message with the `transaction_id`, if it is well formed.
abbrev pub peer_in : ℕ → Attr → Option SocketAddr
peer_in transaction_id a = unless_refused (address_read_refusal xor_peer_address_kind a)
    (address_of (xored transaction_id (address_again a.value)))

-- The values of the first visible attributes of their types.
abbrev pub transport_requested : List ℕ → Option TransportType
transport_requested bytes = option_and_then transport_in (first_visible requested_transport_kind bytes)

abbrev pub channel_requested : List ℕ → Option ℕ
channel_requested bytes = option_and_then channel_in (first_visible channel_number_kind bytes)

abbrev pub connection_requested : List ℕ → Option ℕ
connection_requested bytes = option_and_then connection_in (first_visible connection_id_kind bytes)

abbrev pub peer_requested : List ℕ → Option SocketAddr
peer_requested bytes = option_and_then (peer_in (number_at bytes)) (first_visible xor_peer_address_kind bytes)

-- Whether every XOR-PEER-ADDRESS is well formed.
abbrev pub are_peers : List ℕ → Bool
are_peers bytes = list_all (λ a. is_some (peer_in (number_at bytes) a)) (each_visible xor_peer_address_kind bytes)

-- The peers of the well-formed XOR-PEER-ADDRESS attributes, in order.
abbrev pub peers_reported : List ℕ → List SocketAddr
peers_reported bytes = filter_map (peer_in (number_at bytes)) (each_visible xor_peer_address_kind bytes)

abbrev pub some_peers : Bool → List SocketAddr → Option (List SocketAddr)
some_peers true (peer ∷ others) = Some (peer ∷ others)
some_peers true [] = None
some_peers false peers = None

-- The peers of all XOR-PEER-ADDRESS attributes, if there is at least one and all are well formed.
abbrev pub peers_requested : List ℕ → Option (List SocketAddr)
peers_requested bytes = some_peers (are_peers bytes) (peers_reported bytes)

-- A channel to a peer, if both are given.
abbrev pub channel_to : Option ℕ → Option SocketAddr → Option Requested
channel_to (Some channel) (Some peer) = Some (Channel channel peer)
channel_to (Some channel) None = None
channel_to None peer = None

-- What a request with this method asks for, if it has the attributes that the method needs.
abbrev pub requested_by : ℕ → List ℕ → Option Requested
requested_by method bytes =
    if method == allocate_method then option_map Allocation (transport_requested bytes)
    else if method == refresh_method then Some Refreshment
    else if method == create_permission_method then option_map Permissions (peers_requested bytes)
    else if method == channel_bind_method then channel_to (channel_requested bytes) (peer_requested bytes)
    else if method == connect_method then option_map Connection (peer_requested bytes)
    else if method == connection_bind_method then option_map Binding (connection_requested bytes)
    else None

abbrev pub requested : List ℕ → Option Requested
requested bytes = requested_by (method_of (kind_at bytes)) bytes
