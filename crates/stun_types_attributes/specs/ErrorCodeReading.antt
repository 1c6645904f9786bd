-- Which types and values are decoded as an ERROR-CODE, and as which code and reason (RFC 8489, section 14.8).
use Rattle.std.specs.Prelude.{ℕ, ◌+◌, ◌*◌, ◌&&◌, nat_le, List, drop, Option, Some, None, slice_index, if◌then◌else◌}
use Rattle.std.specs.Option.{option_or}
use Rattle.stun_types_wire.specs.declared.error.StunParseError.{StunParseError}
use Rattle.stun_types_wire.specs.declared.error.StunParseError.TheVariants.{InvalidAttributeData}
use Rattle.stun_types_wire.specs.Attributes.{Attr}
use Rattle.stun_types_auth_attributes.specs.Write.ValueReading.{value_refusal, utf8_refusal}
use Rattle.stun_types_wire.specs.Registry.{longest_text, error_code_kind}
use Rattle.stun_types_attributes.specs.ErrorCodes.{CodeAndReason}

-- Why a value has no valid code. The third byte is the hundreds, from 3 to 6, and the fourth the rest, from 0
-- to 99.
unfoldable pub code_refusal : List ℕ → Option StunParseError
code_refusal value =
    if nat_le 3 (slice_index value 2) && nat_le (slice_index value 2) 6 && nat_le (slice_index value 3) 99 then None
    else Some InvalidAttributeData

-- The code and the reason phrase decoded from a value. Its first two bytes are ignored.
abbrev pub error_decoded : List ℕ → CodeAndReason
error_decoded value = record { code = 100 * slice_index value 2 + slice_index value 3; reason = drop 4 value }

-- Why an attribute is not a valid ERROR-CODE.
unfoldable pub error_read_refusal : Attr → Option StunParseError
error_read_refusal a = option_or (value_refusal error_code_kind 4 (4 + longest_text) a)
    (option_or (code_refusal a.value) (utf8_refusal (drop 4 a.value)))
