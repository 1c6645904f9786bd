-- The requests of a TURN client, as they are written (RFC 8656, sections 7.1, 8.1, 10.1 and 12.1; RFC 6062,
-- sections 4.3 and 4.4).
use Rattle.std.specs.Prelude.{ℕ, Bool, true, false, if◌then◌else◌, List, [], ◌∷◌, ◌++◌, map, Option, Some, None}
use Rattle.std.specs.List.{flat_map}
use Rattle.std.specs.declared.net.ip_addr.IpAddr.{IpAddr}
use Rattle.std.specs.declared.net.ip_addr.IpAddr.TheVariants as Ip
use Rattle.std.specs.declared.net.socket_addr.SocketAddr.{SocketAddr}
use Rattle.std.specs.declared.net.socket_addr.SocketAddr.TheVariants as Socket
use Rattle.byteorder.specs.Endian.{big_bytes}
use Rattle.stun_types_attributes.specs.Addresses.{address_value}
use Rattle.stun_types_wire.specs.Attributes.{Attr}
use Rattle.stun_types_add.specs.Calls.{Add, Fingerprint, Ordinary, attributes_of}
use Rattle.stun_types_wire.specs.Registry.{longest_software, software_kind}
use Rattle.stun_types_wire.specs.declared.class.MessageClass.TheVariants.{Request}
use Rattle.stun_types_wire.specs.Text.{message_text}
use Rattle.stun_types_wire.specs.Types.{type_of}
use Rattle.stun_types_attributes.specs.Xor.{xored}
use Rattle.stun_types_base.specs.declared.family.AddressFamily.{AddressFamily}
use Rattle.stun_types_base.specs.declared.family.AddressFamily.TheVariants.{IPV4, IPV6}
use Rattle.stun_types_base.specs.declared.transport.TransportType.{TransportType}
use Rattle.stun_types_base.specs.declared.transport.TransportType.TheVariants.{Udp, Tcp}
use Rattle.turn_types_attributes.specs.EvenPorts.{even_port_value}
use Rattle.turn_types_attributes.specs.FamilyValues.{family_value}
use Rattle.turn_types_attributes.specs.Transports.{transport_value}
use Rattle.turn_types_peer.specs.PeerValues.{channel_value}
use Rattle.turn_types_attributes.specs.TurnRegistry.{allocate_method, channel_bind_method, connect_method, connection_bind_method, create_permission_method, refresh_method}
use Rattle.turn_types_attributes.specs.TurnRegistry.{additional_address_family_kind, channel_number_kind, connection_id_kind, dont_fragment_kind, even_port_kind, lifetime_kind, requested_address_family_kind, requested_transport_kind, reservation_token_kind, xor_peer_address_kind}
use Rattle.turn_types_attributes.specs.TurnRegistry.{tcp_protocol, udp_protocol}
use Rattle.stun_proto_auth.specs.Addition.{Addition, PartOf, calls_of, no_addition}
use Rattle.stun_proto_client.specs.Client as auth
use Rattle.turn_client_proto_api.specs.declared.options.AllocateOptions.{AllocateOptions}
use Rattle.turn_client_proto_api.specs.declared.options.RelayedPort.{RelayedPort}
use Rattle.turn_client_proto_api.specs.declared.options.RelayedPort.TheVariants.{Any, Even, EvenAndNextReserved, Reserved}
use Rattle.stun_proto_client.specs.ClientSigning.{addition_for}
use Rattle.turn_client_proto_messages.specs.declared.request.TurnRequest.{TurnRequest}
use Rattle.turn_client_proto_messages.specs.declared.request.TurnRequest.TheVariants.{FirstAllocate, Allocate, Refresh, CreatePermission, ChannelBind, Connect, ConnectionBind}

-- ---- the type

abbrev pub request_method : TurnRequest → ℕ
request_method (FirstAllocate transport families options) = allocate_method
request_method (Allocate transport families options) = allocate_method
request_method (Refresh lifetime) = refresh_method
request_method (CreatePermission ips) = create_permission_method
request_method (ChannelBind channel peer) = channel_bind_method
request_method (Connect peer) = connect_method
request_method (ConnectionBind connection) = connection_bind_method

abbrev pub request_type : TurnRequest → ℕ
request_type request = type_of Request (request_method request)

-- ---- single attributes

-- LIFETIME.
abbrev pub lifetime_attribute : ℕ → Attr
lifetime_attribute seconds = record { kind = lifetime_kind; value = big_bytes 4 seconds }

-- The protocol number of a transport.
abbrev pub protocol_of : TransportType → ℕ
protocol_of Udp = udp_protocol
protocol_of Tcp = tcp_protocol

-- REQUESTED-TRANSPORT.
abbrev pub transport_attribute : TransportType → Attr
transport_attribute transport =
    record { kind = requested_transport_kind; value = transport_value (protocol_of transport) }

-- DONT-FRAGMENT, which has no value.
abbrev pub dont_fragment_attribute : Attr
dont_fragment_attribute = record { kind = dont_fragment_kind; value = [] }

-- ADDITIONAL-ADDRESS-FAMILY, for a family other than IPv4. An IPv4 address is allocated anyway.
abbrev pub additional_family : AddressFamily → List Attr
additional_family IPV4 = []
additional_family IPV6 = record { kind = additional_address_family_kind; value = family_value IPV6 } ∷ []

-- REQUESTED-ADDRESS-FAMILY, for a single family other than IPv4. Without the attribute, IPv4 is requested.
abbrev pub requested_family : AddressFamily → List Attr
requested_family IPV4 = []
requested_family IPV6 = record { kind = requested_address_family_kind; value = family_value IPV6 } ∷ []

-- The attributes for the requested address families.
abbrev pub families_attributes : List AddressFamily → List Attr
families_attributes [] = []
families_attributes (family ∷ []) = requested_family family
families_attributes (first ∷ second ∷ others) = flat_map additional_family (first ∷ second ∷ others)

-- EVEN-PORT, and whether the next port is to be reserved.
abbrev pub even_port_attribute : Bool → Attr
even_port_attribute reserves = record { kind = even_port_kind; value = even_port_value reserves }

-- RESERVATION-TOKEN.
abbrev pub reservation_attribute : ℕ → Attr
reservation_attribute token = record { kind = reservation_token_kind; value = big_bytes 8 token }

-- The attribute for the requested port of the relayed address, if one is needed.
abbrev pub port_attributes : RelayedPort → List Attr
port_attributes Any = []
port_attributes Even = even_port_attribute false ∷ []
port_attributes EvenAndNextReserved = even_port_attribute true ∷ []
port_attributes (Reserved token) = reservation_attribute token ∷ []

-- The attributes for the requested address families beside a requested port. A reserved port has its family
-- already, and then none may be named (RFC 8656, section 7.1).
abbrev pub families_beside : RelayedPort → List AddressFamily → List Attr
families_beside Any families = families_attributes families
families_beside Even families = families_attributes families
families_beside EvenAndNextReserved families = families_attributes families
families_beside (Reserved token) families = []

-- The attributes that say which relayed addresses are requested.
abbrev pub relayed_attributes : List AddressFamily → AllocateOptions → List Attr
relayed_attributes families options = port_attributes options.port ++ families_beside options.port families

-- XOR-PEER-ADDRESS, in a message with this transaction ID.
abbrev pub peer_attribute : ℕ → SocketAddr → Attr
peer_attribute transaction_id peer = record { kind = xor_peer_address_kind; value = xored transaction_id (address_value peer) }

-- The peer with this IP address, with a port that the server ignores (RFC 8656, section 10.1).
abbrev pub peer_of : IpAddr → SocketAddr
peer_of (Ip.V4 address) = Socket.V4 (record { ip = address; port = 0 })
peer_of (Ip.V6 address) = Socket.V6 (record { ip = address; port = 0; flowinfo = 0; scope_id = 0 })

-- XOR-PEER-ADDRESS for each of the IP addresses, in order.
abbrev pub peers_attributes : ℕ → List IpAddr → List Attr
peers_attributes transaction_id ips = map (λ ip. peer_attribute transaction_id (peer_of ip)) ips

-- CHANNEL-NUMBER.
abbrev pub channel_attribute : ℕ → Attr
channel_attribute channel = record { kind = channel_number_kind; value = channel_value channel }

-- CONNECTION-ID.
abbrev pub connection_attribute : ℕ → Attr
connection_attribute connection = record { kind = connection_id_kind; value = big_bytes 4 connection }

-- ---- all of them

-- The attributes of a request with this transaction ID before it is signed.
abbrev pub request_attributes : TurnRequest → ℕ → List Attr
request_attributes (FirstAllocate transport families options) transaction_id =
    lifetime_attribute options.lifetime ∷ transport_attribute transport ∷ dont_fragment_attribute
    ∷ relayed_attributes families options
request_attributes (Allocate transport families options) transaction_id =
    transport_attribute transport ∷ lifetime_attribute options.lifetime ∷ relayed_attributes families options
request_attributes (Refresh lifetime) transaction_id = lifetime_attribute lifetime ∷ []
request_attributes (CreatePermission ips) transaction_id = peers_attributes transaction_id ips
request_attributes (ChannelBind channel peer) transaction_id = channel_attribute channel ∷ peer_attribute transaction_id peer ∷ []
request_attributes (Connect peer) transaction_id = peer_attribute transaction_id peer ∷ []
request_attributes (ConnectionBind connection) transaction_id = connection_attribute connection ∷ []

-- The request is signed: all but the first ALLOCATE are.
abbrev pub is_signed : TurnRequest → Bool
is_signed (FirstAllocate transport families options) = false
is_signed _ = true

-- What the client's authenticator adds to the request.
abbrev pub authentication_of : auth.Client → TurnRequest → Addition
authentication_of client request = if is_signed request then addition_for client Request else no_addition

-- SOFTWARE (RFC 8489, section 14.14).
abbrev pub software_part : List ℕ → PartOf
software_part text = record { kind = software_kind; most = longest_software; value = text }

-- SOFTWARE, if its text is set.
abbrev pub software_parts : Option (List ℕ) → List PartOf
software_parts None = []
software_parts (Some text) = software_part text ∷ []

-- The addition with SOFTWARE, if its text is set, before the other parts.
abbrev pub described : Option (List ℕ) → Addition → Addition
described software made = record { parts = software_parts software ++ made.parts; signer = made.signer }

-- What the client adds to the request before FINGERPRINT: its SOFTWARE, and what authenticates the request.
abbrev pub addition_of : auth.Client → TurnRequest → Addition
addition_of client request = described client.style.software (authentication_of client request)

-- The call that adds FINGERPRINT, if it is wanted (RFC 8489, section 14.7).
abbrev pub fingerprint_calls : Bool → List Add
fingerprint_calls true = Fingerprint ∷ []
fingerprint_calls false = []

-- The calls on a writer that add the attributes of the request after its header.
abbrev pub request_calls : auth.Client → TurnRequest → ℕ → List Add
request_calls client request transaction_id =
    map Ordinary (request_attributes request transaction_id)
    ++ (calls_of (addition_of client request) ++ fingerprint_calls client.style.fingerprint)

-- The bytes of the request.
unfoldable pub request_text : auth.Client → TurnRequest → ℕ → List ℕ
request_text client request transaction_id = message_text (request_type request) transaction_id
    (attributes_of (request_type request) transaction_id (request_calls client request transaction_id))
