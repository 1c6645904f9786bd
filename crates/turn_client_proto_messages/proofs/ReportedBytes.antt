-- What is decoded from the attributes of a request.
use Rattle.std.proofs.Common.{◌≡◌, ℕ, ◌<◌, ◌^◌, ◌/◌, ◌%◌, List, [], ◌∷◌, ◌++◌, map, Option, Some, None, refl, ap, ◌∙◌, arith}
use Rattle.std.proofs.lemmas.Grind.{common_steps}
use Rattle.std.specs.List.{AllByRecursion, filter, filter_map, find}
use Rattle.std.specs.declared.net.ip_addr.IpAddr.{IpAddr}
use Rattle.std.specs.Option.{option_and_then}
use Rattle.std.specs.declared.net.socket_addr.SocketAddr.{SocketAddr}
use Rattle.byteorder.specs.Endian.{big_bytes, big_number}
use Rattle.byteorder.specs.Numbers.{big_number-reads_back}
use Rattle.stun_types_wire.specs.Attributes.{Attr, kind_at}
use Rattle.stun_types_wire.specs.Grammar.{number_at, visible}
use Rattle.stun_types_wire.specs.MessageReading.{IsReadAs}
use Rattle.stun_types_wire.specs.RawBytes.{type_and_len_refusal}
use Rattle.stun_types_wire.specs.Types.{class_of, method_of}
use Rattle.stun_types_write.specs.ValueReading.{value_refusal}
use Rattle.stun_types_base.specs.declared.transport.TransportType.{TransportType}
use Rattle.stun_types_base.specs.declared.transport.TransportType.TheVariants.{Udp, Tcp}
use Rattle.turn_types_attributes.specs.TurnRegistry.{channel_number_kind, connection_id_kind, lifetime_kind, requested_transport_kind, xor_peer_address_kind, xor_relayed_address_kind}
use Rattle.turn_types_peer.specs.TurnShows.{address_in, number_in, unless_refused}
use Rattle.turn_runs.specs.Messages.{Message}
use Rattle.turn_runs.specs.StunWire.{protocol_transport, decoded_by}
use Rattle.turn_client_proto_messages.specs.Requests.{channel_attribute, connection_attribute, dont_fragment_attribute, lifetime_attribute, peer_attribute, peer_of, peers_attributes, relayed_attributes, request_attributes, request_type, transport_attribute}
use Rattle.turn_client_proto_messages.specs.ReportedRequests.{CanBeRead, IsLawfulIp, IsLawfulRequest, IsReadBack, reported_request}
use Rattle.turn_client_proto_messages.specs.declared.request.TurnRequest.{TurnRequest}
use Rattle.turn_client_proto_messages.specs.declared.request.TurnRequest.TheVariants.{FirstAllocate, Allocate, Refresh, CreatePermission, ChannelBind, Connect, ConnectionBind}
use Rattle.turn_client_proto_messages.proofs.Beside.{AreOther, is_of, no_channel, no_connection, no_lifetime, no_peer, no_relayed, no_transport, other_both, relayed_other}
use Rattle.turn_client_proto_messages.proofs.Peers.{ip_read}

-- ---- transaction IDs

four_accepted : (a b c d kind : ℕ) → value_refusal kind 4 4 (record { kind = kind; value = a ∷ b ∷ c ∷ d ∷ [] }) ≡ None
unfolding type_and_len_refusal
four_accepted a b c d kind = grind (arith, common_steps)

-- A number in four bytes is decoded unchanged.
number_again : (kind n : ℕ) → n < 2 ^ 32 → number_in 4 (Some (record { kind = kind; value = big_bytes 4 n })) ≡ Some n
number_again kind n small =
    let read : big_number 4 (big_bytes 4 n) ≡ n = big_number-reads_back 4 n [] small in
    ap (λ refused. unless_refused refused (Some (big_number 4 (big_bytes 4 n)))) (four_accepted (n / 16777216 % 256) (n / 65536 % 256) (n / 256 % 256) (n % 256) kind)
    ∙ ap Some read

-- A channel number is decoded unchanged.
channel_again : (channel : ℕ) → channel < 2 ^ 16 → number_in 2 (Some (channel_attribute channel)) ≡ Some channel
channel_again channel small =
    let read : big_number 2 (big_bytes 2 channel ++ 0 ∷ 0 ∷ []) ≡ channel = big_number-reads_back 2 channel (0 ∷ 0 ∷ []) small in
    ap (λ refused. unless_refused refused (Some (big_number 2 (big_bytes 2 channel ++ 0 ∷ 0 ∷ [])))) (four_accepted (channel / 256 % 256) (channel % 256) 0 0 channel_number_kind)
    ∙ ap Some read

-- A transport is decoded unchanged.
transport_again : (transport : TransportType) → option_and_then protocol_transport (number_in 1 (Some (transport_attribute transport))) ≡ Some transport
transport_again Udp = ap (λ refused. option_and_then protocol_transport (unless_refused refused (Some 17))) (four_accepted 17 0 0 0 requested_transport_kind)
transport_again Tcp = ap (λ refused. option_and_then protocol_transport (unless_refused refused (Some 6))) (four_accepted 6 0 0 0 requested_transport_kind)

-- ---- what attributes say

-- What a message of this type and transaction ID shows by its attributes.
abbrev reported_of : ℕ → ℕ → List Attr → Message
reported_of kind number all = record {
  class = class_of kind;
  method = method_of kind;
  number = number;
  transport = option_and_then protocol_transport (number_in 1 (find (is_of requested_transport_kind) all));
  relayed = filter_map (address_in number) (filter (is_of xor_relayed_address_kind) all);
  lifetime = number_in 4 (find (is_of lifetime_kind) all);
  peers = filter_map (address_in number) (filter (is_of xor_peer_address_kind) all);
  channel = number_in 2 (find (is_of channel_number_kind) all);
  connection = number_in 4 (find (is_of connection_id_kind) all);
}

pub reported_listed : (kind number : ℕ) (all : List Attr) (bytes : List ℕ) → IsReadAs kind number all bytes → decoded_by bytes ≡ reported_of kind number all
reported_listed kind number all bytes is = by (kind_at bytes) (number_at bytes) (visible bytes) is.kind is.number is.shows
  where
    by : (k n : ℕ) (l : List Attr) → k ≡ kind → n ≡ number → l ≡ all → reported_of k n l ≡ reported_of kind number all
    by k n l a b c = rw (a, b, c) refl

-- A message, by its fields.
abbrev made : ℕ → ℕ → Option TransportType → List SocketAddr → Option ℕ → List SocketAddr → Option ℕ → Option ℕ → Message
made kind number transport relayed lifetime peers channel connection = record {
  class = class_of kind;
  method = method_of kind;
  number = number;
  transport = transport;
  relayed = relayed;
  lifetime = lifetime;
  peers = peers;
  channel = channel;
  connection = connection;
}

-- What the attributes show, field by field.
record Report (number : ℕ) (all : List Attr) (transport : Option TransportType) (lifetime : Option ℕ) (peers : List SocketAddr) (channel connection : Option ℕ) : Type 0 where
  transport_is : option_and_then protocol_transport (number_in 1 (find (is_of requested_transport_kind) all)) ≡ transport
  relayed_is : filter_map (address_in number) (filter (is_of xor_relayed_address_kind) all) ≡ []
  lifetime_is : number_in 4 (find (is_of lifetime_kind) all) ≡ lifetime
  peers_is : filter_map (address_in number) (filter (is_of xor_peer_address_kind) all) ≡ peers
  channel_is : number_in 2 (find (is_of channel_number_kind) all) ≡ channel
  connection_is : number_in 4 (find (is_of connection_id_kind) all) ≡ connection

reported_made : (kind number : ℕ) (all : List Attr) (transport : Option TransportType) (lifetime : Option ℕ) (peers : List SocketAddr) (channel connection : Option ℕ)
    → Report number all transport lifetime peers channel connection → reported_of kind number all ≡ made kind number transport [] lifetime peers channel connection
reported_made kind number all transport lifetime peers channel connection t = rw (t.transport_is, t.relayed_is, t.lifetime_is, t.peers_is, t.channel_is, t.connection_is) refl

-- ---- what each request says, beside other attributes

report_peer : (number : ℕ) (peer : SocketAddr) (rest : List Attr) → IsReadBack number peer → AreOther rest → Report number (peer_attribute number peer ∷ rest) None None (peer ∷ []) None None
report_peer number peer rest read other = record {
  transport_is = ap (λ a. option_and_then protocol_transport (number_in 1 a)) (no_transport rest other).found;
  relayed_is = ap (filter_map (address_in number)) (no_relayed rest other).stored;
  lifetime_is = ap (number_in 4) (no_lifetime rest other).found;
  peers_is = rw read (ap (λ (l : List Attr). peer ∷ filter_map (address_in number) l) (no_peer rest other).stored);
  channel_is = ap (number_in 2) (no_channel rest other).found;
  connection_is = ap (number_in 4) (no_connection rest other).found;
}

report_peers : (number : ℕ) (ips : List IpAddr) (rest : List Attr) → AllByRecursion IsLawfulIp ips → AreOther rest → Report number (peers_attributes number ips ++ rest) None None (map peer_of ips) None None
report_peers number [] rest each other = record {
  transport_is = ap (λ a. option_and_then protocol_transport (number_in 1 a)) (no_transport rest other).found;
  relayed_is = ap (filter_map (address_in number)) (no_relayed rest other).stored;
  lifetime_is = ap (number_in 4) (no_lifetime rest other).found;
  peers_is = ap (filter_map (address_in number)) (no_peer rest other).stored;
  channel_is = ap (number_in 2) (no_channel rest other).found;
  connection_is = ap (number_in 4) (no_connection rest other).found;
}
report_peers number (ip ∷ ips) rest each other =
    let more = report_peers number ips rest each.1 other in
    record {
      transport_is = more.transport_is;
      relayed_is = more.relayed_is;
      lifetime_is = more.lifetime_is;
      peers_is = rw (ip_read ip number each.0) (ap (λ (l : List SocketAddr). peer_of ip ∷ l) more.peers_is);
      channel_is = more.channel_is;
      connection_is = more.connection_is;
    }

report_channel : (number channel : ℕ) (peer : SocketAddr) (rest : List Attr) → channel < 2 ^ 16 → IsReadBack number peer → AreOther rest
    → Report number (channel_attribute channel ∷ peer_attribute number peer ∷ rest) None None (peer ∷ []) (Some channel) None
report_channel number channel peer rest small read other = record {
  transport_is = ap (λ a. option_and_then protocol_transport (number_in 1 a)) (no_transport rest other).found;
  relayed_is = ap (filter_map (address_in number)) (no_relayed rest other).stored;
  lifetime_is = ap (number_in 4) (no_lifetime rest other).found;
  peers_is = rw read (ap (λ (l : List Attr). peer ∷ filter_map (address_in number) l) (no_peer rest other).stored);
  channel_is = channel_again channel small;
  connection_is = ap (number_in 4) (no_connection rest other).found;
}

report_lifetime : (number lifetime : ℕ) (rest : List Attr) → lifetime < 2 ^ 32 → AreOther rest → Report number (lifetime_attribute lifetime ∷ rest) None (Some lifetime) [] None None
report_lifetime number lifetime rest small other = record {
  transport_is = ap (λ a. option_and_then protocol_transport (number_in 1 a)) (no_transport rest other).found;
  relayed_is = ap (filter_map (address_in number)) (no_relayed rest other).stored;
  lifetime_is = number_again lifetime_kind lifetime small;
  peers_is = ap (filter_map (address_in number)) (no_peer rest other).stored;
  channel_is = ap (number_in 2) (no_channel rest other).found;
  connection_is = ap (number_in 4) (no_connection rest other).found;
}

report_connection : (number connection : ℕ) (rest : List Attr) → connection < 2 ^ 32 → AreOther rest → Report number (connection_attribute connection ∷ rest) None None [] None (Some connection)
report_connection number connection rest small other = record {
  transport_is = ap (λ a. option_and_then protocol_transport (number_in 1 a)) (no_transport rest other).found;
  relayed_is = ap (filter_map (address_in number)) (no_relayed rest other).stored;
  lifetime_is = ap (number_in 4) (no_lifetime rest other).found;
  peers_is = ap (filter_map (address_in number)) (no_peer rest other).stored;
  channel_is = ap (number_in 2) (no_channel rest other).found;
  connection_is = number_again connection_id_kind connection small;
}

report_first : (number lifetime : ℕ) (transport : TransportType) (rest : List Attr) → lifetime < 2 ^ 32 → AreOther rest
    → Report number (lifetime_attribute lifetime ∷ transport_attribute transport ∷ dont_fragment_attribute ∷ rest) (Some transport) (Some lifetime) [] None None
report_first number lifetime transport rest small other = record {
  transport_is = transport_again transport;
  relayed_is = ap (filter_map (address_in number)) (no_relayed rest other).stored;
  lifetime_is = number_again lifetime_kind lifetime small;
  peers_is = ap (filter_map (address_in number)) (no_peer rest other).stored;
  channel_is = ap (number_in 2) (no_channel rest other).found;
  connection_is = ap (number_in 4) (no_connection rest other).found;
}

report_allocate : (number lifetime : ℕ) (transport : TransportType) (rest : List Attr) → lifetime < 2 ^ 32 → AreOther rest
    → Report number (transport_attribute transport ∷ lifetime_attribute lifetime ∷ rest) (Some transport) (Some lifetime) [] None None
report_allocate number lifetime transport rest small other = record {
  transport_is = transport_again transport;
  relayed_is = ap (filter_map (address_in number)) (no_relayed rest other).stored;
  lifetime_is = number_again lifetime_kind lifetime small;
  peers_is = ap (filter_map (address_in number)) (no_peer rest other).stored;
  channel_is = ap (number_in 2) (no_channel rest other).found;
  connection_is = ap (number_in 4) (no_connection rest other).found;
}

-- What a request shows.
pub request_reported : (request : TurnRequest) (number : ℕ) (rest : List Attr) → IsLawfulRequest request → CanBeRead request number → AreOther rest
    → reported_of (request_type request) number (request_attributes request number ++ rest) ≡ reported_request request number
request_reported (FirstAllocate transport families options) number rest lawful read other =
    reported_made (request_type (FirstAllocate transport families options)) number (request_attributes (FirstAllocate transport families options) number ++ rest) (Some transport) (Some options.lifetime) [] None None
    (report_first number options.lifetime transport (relayed_attributes families options ++ rest) lawful.fits (other_both (relayed_attributes families options) rest (relayed_other families options.port) other))
request_reported (Allocate transport families options) number rest lawful read other =
    reported_made (request_type (Allocate transport families options)) number (request_attributes (Allocate transport families options) number ++ rest) (Some transport) (Some options.lifetime) [] None None
    (report_allocate number options.lifetime transport (relayed_attributes families options ++ rest) lawful.fits (other_both (relayed_attributes families options) rest (relayed_other families options.port) other))
request_reported (Refresh lifetime) number rest lawful read other =
    reported_made (request_type (Refresh lifetime)) number (lifetime_attribute lifetime ∷ rest) None (Some lifetime) [] None None (report_lifetime number lifetime rest lawful other)
request_reported (CreatePermission ips) number rest lawful read other =
    reported_made (request_type (CreatePermission ips)) number (peers_attributes number ips ++ rest) None None (map peer_of ips) None None (report_peers number ips rest lawful.each other)
request_reported (ChannelBind channel peer) number rest lawful read other =
    reported_made (request_type (ChannelBind channel peer)) number (channel_attribute channel ∷ peer_attribute number peer ∷ rest) None None (peer ∷ []) (Some channel) None (report_channel number channel peer rest lawful read other)
request_reported (Connect peer) number rest lawful read other =
    reported_made (request_type (Connect peer)) number (peer_attribute number peer ∷ rest) None None (peer ∷ []) None None (report_peer number peer rest read other)
request_reported (ConnectionBind connection) number rest lawful read other =
    reported_made (request_type (ConnectionBind connection)) number (connection_attribute connection ∷ rest) None None [] None (Some connection) (report_connection number connection rest lawful other)
