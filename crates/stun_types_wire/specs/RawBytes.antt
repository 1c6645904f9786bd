-- Which bytes begin with an attribute, and which attributes have a given type and length.
use Rattle.std.specs.Prelude.{ℕ, ◌+◌, ◌-◌, ◌==◌, min, not, nat_lt, nat_le, List, length, Option, Some, None, if◌then◌else◌}
use Rattle.std.specs.Option.{option_or}
use Rattle.std.specs.declared.ops.Bound.{Bound}
use Rattle.std.specs.declared.ops.Bound.TheVariants.{Included, Excluded, Unbounded}
use Rattle.stun_types_wire.specs.declared.error.StunParseError.{StunParseError}
use Rattle.stun_types_wire.specs.declared.error.StunParseError.TheVariants.{Truncated, TooLarge, WrongAttributeImplementation}
use Rattle.stun_types_wire.specs.Attributes.{Attr, length_at}

-- Why bytes don't begin with the header of an attribute.
abbrev pub attribute_header_refusal : List ℕ → Option StunParseError
attribute_header_refusal bytes = if nat_lt (length bytes) 4 then Some (Truncated 4 (length bytes)) else None

-- Why bytes don't begin with an attribute. Its padding may be missing.
unfoldable pub attribute_refusal : List ℕ → Option StunParseError
attribute_refusal bytes =
    if nat_lt (length bytes) 4 then Some (Truncated 4 (length bytes))
    else if nat_lt (length bytes) (4 + length_at bytes) then Some (Truncated (4 + length_at bytes) (length bytes))
    else None

-- The greatest `usize`.
abbrev pub greatest_len : ℕ
greatest_len = 0xffff_ffff_ffff_ffff

-- Why a length is below the lower bound.
abbrev pub below_refusal : Bound ℕ → ℕ → Option StunParseError
below_refusal (Included least) len = if nat_lt len least then Some (Truncated least len) else None
below_refusal (Excluded below) len = if nat_le len below then Some (Truncated (min (below + 1) greatest_len) len)
    else None
below_refusal Unbounded len = None

-- Why a length is above the upper bound.
abbrev pub above_refusal : Bound ℕ → ℕ → Option StunParseError
above_refusal (Included most) len = if nat_lt most len then Some (TooLarge most len) else None
above_refusal (Excluded above) len = if nat_le above len then Some (TooLarge (above - 1) len) else None
above_refusal Unbounded len = None

-- Why an attribute doesn't have this type, or a value with a length within the two bounds.
unfoldable pub type_and_len_refusal : ℕ → Bound ℕ → Bound ℕ → Attr → Option StunParseError
type_and_len_refusal kind least most a =
    if not (a.kind == kind) then Some WrongAttributeImplementation
    else option_or (below_refusal least (length a.value)) (above_refusal most (length a.value))
