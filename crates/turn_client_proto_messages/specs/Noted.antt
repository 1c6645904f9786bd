-- What the client notes of the server's messages (RFC 8489, section 14; RFC 8656, section 18).
use Rattle.std.specs.Prelude.{ℕ, Bool, false, List, [], drop, length, nat_lt, Option, None, Some, is_none, if◌then◌else◌}
use Rattle.std.specs.Option.{option_and_then}
use Rattle.std.specs.declared.net.socket_addr.SocketAddr.{SocketAddr}
use Rattle.byteorder.specs.Endian.{big_number}
use Rattle.stun_types_attributes.specs.Addresses.{address_again, address_of, address_read_refusal}
use Rattle.stun_types_attributes.specs.Xor.{xored}
use Rattle.stun_types_wire.specs.Attributes.{Attr}
use Rattle.stun_types_wire.specs.Grammar.{number_at}
use Rattle.stun_types_wire.specs.Registry.{alternate_domain_kind, alternate_server_kind, error_code_kind, longest_domain, xor_mapped_address_kind}
use Rattle.stun_types_wire.specs.declared.error.StunParseError.{StunParseError}
use Rattle.stun_types_write.specs.ValueReading.{text_read_refusal, utf8_refusal, value_refusal}
use Rattle.turn_types_attributes.specs.TurnRegistry.{reservation_token_kind, reservation_token_length, xor_relayed_address_kind}
use Rattle.turn_types_peer.specs.TurnShows.{first_visible, unless_refused}

-- The address in an XOR-MAPPED-ADDRESS of a message with this transaction ID, if that is well formed.
abbrev pub mapped_in : ℕ → Attr → Option SocketAddr
mapped_in transaction_id a = unless_refused (address_read_refusal xor_mapped_address_kind a) (address_of (xored transaction_id (address_again a.value)))

-- The address in the first XOR-MAPPED-ADDRESS of the message (RFC 8489, section 14.2).
abbrev pub mapped_reported : List ℕ → Option SocketAddr
mapped_reported bytes = option_and_then (mapped_in (number_at bytes)) (first_visible xor_mapped_address_kind bytes)

-- The address in an ALTERNATE-SERVER, if that is well formed.
abbrev pub alternate_in : Attr → Option SocketAddr
alternate_in a = unless_refused (address_read_refusal alternate_server_kind a) (address_of (address_again a.value))

-- The address in the first ALTERNATE-SERVER of the message (RFC 8489, section 14.15).
abbrev pub alternate_reported : List ℕ → Option SocketAddr
alternate_reported bytes = option_and_then alternate_in (first_visible alternate_server_kind bytes)

-- The token in a RESERVATION-TOKEN, if that is well formed: its first byte is the most significant.
abbrev pub reservation_in : Attr → Option ℕ
reservation_in a =
    unless_refused (value_refusal reservation_token_kind reservation_token_length reservation_token_length a)
    (Some (big_number 8 a.value))

-- The token in the first RESERVATION-TOKEN of the message (RFC 8656, section 18.10).
abbrev pub reservation_reported : List ℕ → Option ℕ
reservation_reported bytes = option_and_then reservation_in (first_visible reservation_token_kind bytes)

-- The text in an ALTERNATE-DOMAIN, if that is well formed.
abbrev pub domain_in : Attr → Option (List ℕ)
domain_in a = unless_refused (text_read_refusal alternate_domain_kind longest_domain a) (Some a.value)

-- The text in the first ALTERNATE-DOMAIN of the message (RFC 8489, section 14.16).
abbrev pub domain_reported : List ℕ → Option (List ℕ)
domain_reported bytes = option_and_then domain_in (first_visible alternate_domain_kind bytes)

-- These bytes if they are a text; nothing if they aren't.
abbrev pub text_or_empty : Option StunParseError → List ℕ → List ℕ
text_or_empty None text = text
text_or_empty (Some error) text = []

-- The reason phrase in the value of an ERROR-CODE: what follows the first four bytes, if that is a text.
abbrev pub phrase_of : List ℕ → List ℕ
phrase_of value = if nat_lt (length value) 4 then [] else text_or_empty (utf8_refusal (drop 4 value)) (drop 4 value)

abbrev pub phrase_in : Option Attr → List ℕ
phrase_in None = []
phrase_in (Some a) = phrase_of a.value

-- The reason phrase of the message's first ERROR-CODE (RFC 8489, section 14.8).
abbrev pub reason_reported : List ℕ → List ℕ
reason_reported bytes = phrase_in (first_visible error_code_kind bytes)

abbrev pub is_relayed_in : Option Attr → Bool
is_relayed_in None = false
is_relayed_in (Some a) = is_none (address_read_refusal xor_relayed_address_kind a)

-- The first XOR-RELAYED-ADDRESS of the message is well formed (RFC 8656, section 18.5).
abbrev pub is_relaying : List ℕ → Bool
is_relaying bytes = is_relayed_in (first_visible xor_relayed_address_kind bytes)
