-- The constants that TURN adds, each defined once: methods, attribute types and transports (RFC 8656,
-- sections 17 and 18). `src/registry.rt` has the same numbers for the code.
use Rattle.std.specs.Prelude.{ℕ}

-- ---- methods that contracts name (section 17)

-- ALLOCATE
abbrev pub allocate_method : ℕ
allocate_method = 0x003

-- REFRESH
abbrev pub refresh_method : ℕ
refresh_method = 0x004

-- SEND
abbrev pub send_method : ℕ
send_method = 0x006

-- DATA
abbrev pub data_method : ℕ
data_method = 0x007

-- CREATE_PERMISSION
abbrev pub create_permission_method : ℕ
create_permission_method = 0x008

-- CHANNEL_BIND
abbrev pub channel_bind_method : ℕ
channel_bind_method = 0x009

-- CONNECT (RFC 6062, section 6.1)
abbrev pub connect_method : ℕ
connect_method = 0x00A

-- CONNECTION_BIND (RFC 6062, section 6.1)
abbrev pub connection_bind_method : ℕ
connection_bind_method = 0x00B

-- CONNECTION_ATTEMPT (RFC 6062, section 6.1)
abbrev pub connection_attempt_method : ℕ
connection_attempt_method = 0x00C

-- ---- types of attributes

-- CHANNEL-NUMBER (section 18.1)
abbrev pub channel_number_kind : ℕ
channel_number_kind = 0x000C

-- LIFETIME (section 18.2)
abbrev pub lifetime_kind : ℕ
lifetime_kind = 0x000D

-- XOR-PEER-ADDRESS (section 18.3)
abbrev pub xor_peer_address_kind : ℕ
xor_peer_address_kind = 0x0012

-- DATA (section 18.4)
abbrev pub data_kind : ℕ
data_kind = 0x0013

-- XOR-RELAYED-ADDRESS (section 18.5)
abbrev pub xor_relayed_address_kind : ℕ
xor_relayed_address_kind = 0x0016

-- REQUESTED-ADDRESS-FAMILY (section 18.6)
abbrev pub requested_address_family_kind : ℕ
requested_address_family_kind = 0x0017

-- EVEN-PORT (section 18.7)
abbrev pub even_port_kind : ℕ
even_port_kind = 0x0018

-- REQUESTED-TRANSPORT (section 18.8)
abbrev pub requested_transport_kind : ℕ
requested_transport_kind = 0x0019

-- DONT-FRAGMENT (section 18.9)
abbrev pub dont_fragment_kind : ℕ
dont_fragment_kind = 0x001A

-- RESERVATION-TOKEN (section 18.10)
abbrev pub reservation_token_kind : ℕ
reservation_token_kind = 0x0022

-- CONNECTION-ID (RFC 6062, section 6.2.1)
abbrev pub connection_id_kind : ℕ
connection_id_kind = 0x002A

-- ADDITIONAL-ADDRESS-FAMILY (section 18.11)
abbrev pub additional_address_family_kind : ℕ
additional_address_family_kind = 0x8000

-- ADDRESS-ERROR-CODE (section 18.12)
abbrev pub address_error_code_kind : ℕ
address_error_code_kind = 0x8001

-- ICMP (section 18.13)
abbrev pub icmp_kind : ℕ
icmp_kind = 0x8004

-- ---- transports, by the transaction IDs of IP (section 18.8; RFC 6062, section 4.1)

-- TCP
abbrev pub tcp_protocol : ℕ
tcp_protocol = 6

-- UDP
abbrev pub udp_protocol : ℕ
udp_protocol = 17

-- ---- ports (sections 18.7 and 18.10)

-- The bit R, the top bit of an EVEN-PORT.
abbrev pub reserve_bit : ℕ
reserve_bit = 0x80

-- The length of a RESERVATION-TOKEN in bytes.
abbrev pub reservation_token_length : ℕ
reservation_token_length = 8

-- ---- channels and payloads (sections 12 and 12.4)

-- The lowest and the highest channel number. RFC 8656 itself reserves the numbers from 0x5000 on.
abbrev pub least_channel : ℕ
least_channel = 0x4000

abbrev pub greatest_channel : ℕ
greatest_channel = 0x7FFF

-- The length of a channel frame's header in bytes.
abbrev pub channel_header_size : ℕ
channel_header_size = 4

-- The maximum number of bytes of a peer's data in an indication that also carries an IPv6 address.
abbrev pub most_payload : ℕ
most_payload = 65504
