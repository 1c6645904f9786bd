-- Which types and values are decoded as an attribute of one type.
use Rattle.std.specs.Prelude.{ℕ, List, Option, Some, None, if◌then◌else◌}
use Rattle.std.specs.Option.{option_or}
use Rattle.std.specs.Str.{is_utf8}
use Rattle.std.specs.declared.ops.Bound.TheVariants.{Included}
use Rattle.stun_types_wire.specs.Base.Refusals.{IsNamed as IsNamedBut}
use Rattle.stun_types_wire.specs.declared.error.StunParseError.{StunParseError}
use Rattle.stun_types_wire.specs.declared.error.StunParseError.TheVariants.{InvalidAttributeData, NoMemory}
use Rattle.stun_types_wire.specs.Attributes.{Attr}
use Rattle.stun_types_wire.specs.RawBytes.{type_and_len_refusal}

-- Why an attribute doesn't have this type, or a value with a length from `least` to `most`.
abbrev pub value_refusal : ℕ → ℕ → ℕ → Attr → Option StunParseError
value_refusal kind least most a = type_and_len_refusal kind (Included least) (Included most) a

-- An error is the refusal, and is not the error of a failed allocation.
abbrev pub IsNamed : Option StunParseError → StunParseError → Type 0
IsNamed = IsNamedBut NoMemory

-- Why bytes are not a text: they are not UTF-8.
unfoldable pub utf8_refusal : List ℕ → Option StunParseError
utf8_refusal bytes = if is_utf8 bytes then None else Some InvalidAttributeData

-- Why an attribute is not a text of this type with at most `most` bytes.
unfoldable pub text_read_refusal : ℕ → ℕ → Attr → Option StunParseError
text_read_refusal kind most a = option_or (value_refusal kind 0 most a) (utf8_refusal a.value)
