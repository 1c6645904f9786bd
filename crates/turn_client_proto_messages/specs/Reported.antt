-- What the client decodes from the server's messages (RFC 8489, section 14.8; RFC 8656, section 18).
use Rattle.std.specs.Prelude.{ℕ, ◌==◌, Bool, false, List, find, is_some, Option, Some, None}
use Rattle.std.specs.List.{filter_map, take_while}
use Rattle.std.specs.Option.{option_and_then}
use Rattle.std.specs.declared.net.socket_addr.SocketAddr.{SocketAddr}
use Rattle.byteorder.specs.Endian.{big_number}
use Rattle.stun_proto_auth.specs.Claims.{code_decoded}
use Rattle.stun_types_attributes.specs.Addresses.{address_again, address_of, address_read_refusal}
use Rattle.stun_types_wire.specs.Attributes.{Attr}
use Rattle.stun_types_wire.specs.Grammar.{number_at, visible}
use Rattle.stun_types_wire.specs.Registry.{error_code_kind}
use Rattle.stun_types_write.specs.ValueReading.{value_refusal}
use Rattle.stun_types_attributes.specs.Xor.{xored}
use Rattle.turn_types_attributes.specs.TurnRegistry.{connection_id_kind, lifetime_kind, xor_peer_address_kind, xor_relayed_address_kind}
use Rattle.turn_types_peer.specs.TurnShows.{address_in, each_visible, first_visible, unless_refused}

-- The lifetime in a LIFETIME, if that is well formed.
abbrev pub lifetime_in : Attr → Option ℕ
lifetime_in a = unless_refused (value_refusal lifetime_kind 4 4 a) (Some (big_number 4 a.value))

-- The lifetime in the first LIFETIME of the message, in seconds.
abbrev pub lifetime_reported : List ℕ → Option ℕ
lifetime_reported bytes = option_and_then lifetime_in (first_visible lifetime_kind bytes)

-- The connection ID in a CONNECTION-ID, if that is well formed.
abbrev pub connection_in : Attr → Option ℕ
connection_in a = unless_refused (value_refusal connection_id_kind 4 4 a) (Some (big_number 4 a.value))

-- The connection ID in the first CONNECTION-ID of the message (RFC 6062, section 6.2.1).
abbrev pub connection_reported : List ℕ → Option ℕ
connection_reported bytes = option_and_then connection_in (first_visible connection_id_kind bytes)

-- The peer in an XOR-PEER-ADDRESS of a message with this transaction ID, if that is well formed.
abbrev pub peer_in : ℕ → Attr → Option SocketAddr
peer_in transaction_id a = unless_refused (address_read_refusal xor_peer_address_kind a) (address_of (xored transaction_id (address_again a.value)))

-- The peer in the first XOR-PEER-ADDRESS of the message (RFC 8656, section 18.3).
abbrev pub peer_reported : List ℕ → Option SocketAddr
peer_reported bytes = option_and_then (peer_in (number_at bytes)) (first_visible xor_peer_address_kind bytes)

-- The code of the first ERROR-CODE, if there is one and it is well formed.
abbrev pub first_code : List ℕ → Option ℕ
first_code bytes = code_decoded (find (λ a. a.kind == error_code_kind) (visible bytes))

-- There is a code, and it is this one.
abbrev pub is_code : ℕ → Option ℕ → Bool
is_code code None = false
is_code code (Some reported) = reported == code

-- The addresses in these attributes, up to the first that is malformed.
abbrev pub addresses_in : ℕ → List Attr → List SocketAddr
addresses_in transaction_id all = filter_map (address_in transaction_id) (take_while (λ a. is_some (address_in transaction_id a)) all)

-- The relayed addresses of the message, in order, up to the first XOR-RELAYED-ADDRESS that is malformed.
abbrev pub relayed_reported : List ℕ → List SocketAddr
relayed_reported bytes = addresses_in (number_at bytes) (each_visible xor_relayed_address_kind bytes)
