-- The value of an ADDRESS-ERROR-CODE (RFC 8656, section 18.12).
use Rattle.std.specs.Prelude.{ℕ, ◌+◌, ◌/◌, ◌%◌, List, ◌∷◌, drop, slice_index, Option}
use Rattle.std.specs.Option.{option_or}
use Rattle.stun_types_attributes.specs.Base.declared.family.AddressFamily.{AddressFamily}
use Rattle.stun_types_attributes.specs.Wire.Attributes.{Attr}
use Rattle.stun_types_attributes.specs.Wire.Registry.{longest_text}
use Rattle.stun_types_attributes.specs.Wire.declared.error.StunParseError.{StunParseError}
use Rattle.stun_types_integrity.specs.Write.ValueReading.{utf8_refusal, value_refusal}
use Rattle.stun_types_attributes.specs.ErrorCodes.{CodeAndReason}
use Rattle.stun_types_attributes.specs.ErrorCodeReading.{code_refusal, error_decoded}
use Rattle.turn_types_attributes.specs.FamilyValues.{family_number, family_refusal}
use Rattle.turn_types_attributes.specs.TurnRegistry.{address_error_code_kind}

-- The family of which no address was allocated, and why.
pub record AddressError : Type 0 where
  pub family : AddressFamily
  pub error : CodeAndReason

-- The number of a family, a zero, the hundreds of the code, the rest of it, the reason phrase.
abbrev pub address_error_entry : ℕ → CodeAndReason → List ℕ
address_error_entry number e = number ∷ 0 ∷ (e.code / 100) ∷ (e.code % 100) ∷ e.reason

-- The value for a family and an error.
abbrev pub address_error_value : AddressError → List ℕ
address_error_value a = address_error_entry (family_number a.family) a.error

-- The value as it is encoded again. Its second byte is ignored. The code and the reason phrase are those of an
-- ERROR-CODE.
abbrev pub address_error_again : List ℕ → List ℕ
address_error_again value = address_error_entry (slice_index value 0) (error_decoded value)

-- Why a value has no valid family, code or reason phrase.
unfoldable pub address_error_refusal : List ℕ → Option StunParseError
address_error_refusal value = option_or (family_refusal (slice_index value 0))
    (option_or (code_refusal value) (utf8_refusal (drop 4 value)))

-- The error, if any, when an attribute is read as an ADDRESS-ERROR-CODE.
unfoldable pub address_error_read_refusal : Attr → Option StunParseError
address_error_read_refusal a =
    option_or (value_refusal address_error_code_kind 4 (4 + longest_text) a) (address_error_refusal a.value)
