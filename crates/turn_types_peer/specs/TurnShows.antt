-- What a reader decodes from a message on allocations, peers, channels and connections (RFC 8656, section 18;
-- RFC 6062, section 6.2).
use Rattle.std.specs.Prelude.{◌≡◌, ℕ, ◌==◌, List, Option, Some, None}
use Rattle.std.specs.List.{filter, filter_map, find}
use Rattle.std.specs.declared.net.socket_addr.SocketAddr.{SocketAddr}
use Rattle.byteorder.specs.Endian.{big_number}
use Rattle.turn_types_attributes.specs.StunTypesAttributes.Addresses.{address_again, address_of, address_read_refusal}
use Rattle.turn_types_attributes.specs.StunTypesWire.Attributes.{Attr}
use Rattle.turn_types_attributes.specs.StunTypesWire.Grammar.{number_at, visible}
use Rattle.turn_types_attributes.specs.StunTypesWire.declared.error.StunParseError.{StunParseError}
use Rattle.turn_types_attributes.specs.Write.ValueReading.{value_refusal}
use Rattle.turn_types_attributes.specs.StunTypesAttributes.Xor.{xored}
use Rattle.turn_types_attributes.specs.TurnRegistry.{channel_number_kind, connection_id_kind, lifetime_kind, requested_transport_kind, xor_peer_address_kind, xor_relayed_address_kind}

-- The visible attributes of a type, in order.
abbrev pub each_visible : ℕ → List ℕ → List Attr
each_visible kind bytes = filter (λ a. a.kind == kind) (visible bytes)

-- The first visible attribute of a type.
abbrev pub first_visible : ℕ → List ℕ → Option Attr
first_visible kind bytes = find (λ a. a.kind == kind) (visible bytes)

-- The decoded value, or `None` if there is an error.
abbrev pub unless_refused : {A : Type 0} → Option StunParseError → Option A → Option A
unless_refused None decoded = decoded
unless_refused (Some _) decoded = None

-- The address decoded from the value of an attribute in a message with this transaction ID.
abbrev pub address_in : ℕ → Attr → Option SocketAddr
address_in transaction_id a = unless_refused (address_read_refusal a.kind a) (address_of (xored transaction_id (address_again a.value)))

-- The addresses decoded from the visible attributes of a type, in order, without those that do not decode.
abbrev pub addresses_visible : ℕ → List ℕ → List SocketAddr
addresses_visible kind bytes = filter_map (address_in (number_at bytes)) (each_visible kind bytes)

-- The number in the first `count` bytes of a four-byte value.
abbrev pub number_in : ℕ → Option Attr → Option ℕ
number_in count None = None
number_in count (Some a) = unless_refused (value_refusal a.kind 4 4 a) (Some (big_number count a.value))

-- The number decoded from the first visible attribute of a type.
abbrev pub number_visible : ℕ → ℕ → List ℕ → Option ℕ
number_visible count kind bytes = number_in count (first_visible kind bytes)

-- The same information on allocations, peers, channels and connections is decoded from two messages.
pub record DecodeSame (one other : List ℕ) : Type 0 where
  -- Each XOR-PEER-ADDRESS.
  pub peers : addresses_visible xor_peer_address_kind one ≡ addresses_visible xor_peer_address_kind other
  -- Each XOR-RELAYED-ADDRESS.
  pub relayed : addresses_visible xor_relayed_address_kind one ≡ addresses_visible xor_relayed_address_kind other
  -- CHANNEL-NUMBER
  pub channel : number_visible 2 channel_number_kind one ≡ number_visible 2 channel_number_kind other
  -- CONNECTION-ID
  pub connection : number_visible 4 connection_id_kind one ≡ number_visible 4 connection_id_kind other
  -- LIFETIME
  pub lifetime : number_visible 4 lifetime_kind one ≡ number_visible 4 lifetime_kind other
  -- REQUESTED-TRANSPORT
  pub transport : number_visible 1 requested_transport_kind one ≡ number_visible 1 requested_transport_kind other
