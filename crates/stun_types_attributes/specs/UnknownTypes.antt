-- Attribute types as the value of an UNKNOWN-ATTRIBUTES (RFC 8489, section 14.13).
use Rattle.std.specs.Prelude.{ℕ, ◌+◌, ◌*◌, ◌%◌, ◌==◌, nat_lt, List, [], ◌∷◌, ◌++◌, length, Option, Some, None, if◌then◌else◌}
use Rattle.std.specs.Option.{option_or}
use Rattle.byteorder.specs.Endian.{big_bytes}
use Rattle.stun_types_wire.specs.declared.error.StunParseError.{StunParseError}
use Rattle.stun_types_wire.specs.declared.error.StunParseError.TheVariants.{InvalidAttributeData}
use Rattle.stun_types_wire.specs.declared.error.StunWriteError.{StunWriteError}
use Rattle.stun_types_wire.specs.declared.error.StunWriteError.TheVariants.{TooLarge}
use Rattle.stun_types_wire.specs.Attributes.{Attr}
use Rattle.stun_types_auth_attributes.specs.Write.Adding.{has_kind}
use Rattle.stun_types_auth_attributes.specs.Write.ValueReading.{value_refusal}
use Rattle.stun_types_wire.specs.Registry.{unknown_attributes_kind, longest_value}

-- The value: the types in order, each in two bytes, the high byte first.
unfoldable pub types_value : List ℕ → List ℕ
types_value [] = []
types_value (kind ∷ kinds) = big_bytes 2 kind ++ types_value kinds

-- The types decoded from a value. A single byte at the end is ignored.
unfoldable pub types_decoded : List ℕ → List ℕ
types_decoded [] = []
types_decoded (high ∷ []) = []
types_decoded (high ∷ low ∷ rest) = (high * 256 + low) ∷ types_decoded rest

-- The types, with one more at the end unless it is one of them.
abbrev pub with_type : ℕ → List ℕ → List ℕ
with_type kind kinds = if has_kind kind kinds then kinds else kinds ++ kind ∷ []

-- Why no value holds `count` types.
abbrev pub types_refusal : ℕ → Option StunWriteError
types_refusal count = if nat_lt longest_value (2 * count) then Some (TooLarge longest_value (2 * count)) else None

-- Why a value is not a list of types: it has an odd number of bytes.
unfoldable pub odd_refusal : List ℕ → Option StunParseError
odd_refusal value = if length value % 2 == 0 then None else Some InvalidAttributeData

-- Why an attribute is not a valid UNKNOWN-ATTRIBUTES.
unfoldable pub types_read_refusal : Attr → Option StunParseError
types_read_refusal a = option_or (value_refusal unknown_attributes_kind 0 longest_value a) (odd_refusal a.value)
