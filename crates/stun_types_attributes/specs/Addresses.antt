-- Encoded addresses (RFC 8489, section 14.1).
use Rattle.std.specs.Prelude.{ℕ, ◌==◌, not, nat_lt, List, ◌∷◌, ◌++◌, length, drop, slice_index, Option, Some, None, if◌then◌else◌}
use Rattle.std.specs.declared.net.socket_addr.SocketAddr.{SocketAddr}
use Rattle.std.specs.declared.net.socket_addr.SocketAddr.TheVariants.{V4, V6}
use Rattle.std.specs.Net.Addr.{ipv4_octets, ipv6_octets, segments_of}
use Rattle.std.specs.Net.Socket.{v4_ip, v4_port, v6_ip, v6_port}
use Rattle.byteorder.specs.Endian.{big_bytes, big_number}
use Rattle.stun_types_wire.specs.declared.error.StunParseError.{StunParseError}
use Rattle.stun_types_wire.specs.declared.error.StunParseError.TheVariants.{Truncated, TooLarge, WrongAttributeImplementation, InvalidAttributeData}
use Rattle.stun_types_wire.specs.Attributes.{Attr}
use Rattle.stun_types_wire.specs.Registry.{ipv4_family, ipv4_value_size, ipv6_family, ipv6_value_size}

-- A zero, the family, the port, the octets of the address.
abbrev pub value_of_parts : ℕ → ℕ → List ℕ → List ℕ
value_of_parts family port octets = 0 ∷ family ∷ (big_bytes 2 port ++ octets)

-- The encoding of an address.
abbrev pub address_value : SocketAddr → List ℕ
address_value (V4 a) = value_of_parts ipv4_family (v4_port a) (ipv4_octets (v4_ip a))
address_value (V6 a) = value_of_parts ipv6_family (v6_port a) (ipv6_octets (v6_ip a))

-- The IPv4 address and port that follow the family.
abbrev pub v4_of : List ℕ → SocketAddr
v4_of value = V4 (record { ip = record { octets = drop 4 value }; port = big_number 2 (drop 2 value) })

-- The IPv6 address and port that follow the family, with flow information and scope 0.
abbrev pub v6_of : List ℕ → SocketAddr
v6_of value = V6 (record {
  ip = record { segments = segments_of (drop 4 value) };
  port = big_number 2 (drop 2 value);
  flowinfo = 0;
  scope_id = 0;
})

-- The address decoded from a value: none if the family is unknown.
abbrev pub address_of : List ℕ → Option SocketAddr
address_of value =
    if slice_index value 1 == ipv4_family then Some (v4_of value)
    else if slice_index value 1 == ipv6_family then Some (v6_of value)
    else None

-- An address with flow information and scope 0, which are not encoded.
abbrev pub on_the_wire : SocketAddr → SocketAddr
on_the_wire (V4 a) = V4 a
on_the_wire (V6 a) = V6 (record { ip = v6_ip a; port = v6_port a; flowinfo = 0; scope_id = 0 })

-- Why a value doesn't have exactly n bytes.
abbrev pub length_refusal : ℕ → List ℕ → Option StunParseError
length_refusal n value =
    if nat_lt (length value) n then Some (Truncated n (length value))
    else if nat_lt n (length value) then Some (TooLarge n (length value))
    else None

-- Why a value is not an address. The family, in the first four bytes, determines the length.
unfoldable pub address_refusal : List ℕ → Option StunParseError
address_refusal value =
    if nat_lt (length value) 4 then Some (Truncated 4 (length value))
    else if slice_index value 1 == ipv4_family then length_refusal ipv4_value_size value
    else if slice_index value 1 == ipv6_family then length_refusal ipv6_value_size value
    else Some InvalidAttributeData

-- Why an attribute is not an address of this type.
unfoldable pub address_read_refusal : ℕ → Attr → Option StunParseError
address_read_refusal kind a = if not (a.kind == kind) then Some WrongAttributeImplementation
    else address_refusal a.value

-- A value as it is encoded again after decoding, which ignores the first byte.
abbrev pub address_again : List ℕ → List ℕ
address_again value = 0 ∷ drop 1 value
