-- Which bytes begin with a message type.
use Rattle.std.specs.Prelude.{ℕ, nat_lt, List, length, slice_index, Option, Some, None, if◌then◌else◌}
use Rattle.stun_types_wire.specs.declared.error.StunParseError.{StunParseError}
use Rattle.stun_types_wire.specs.declared.error.StunParseError.TheVariants.{NotStun, Truncated}

-- Why bytes don't begin with a message type: a top bit is set, or there are fewer than two bytes.
abbrev pub type_refusal : List ℕ → Option StunParseError
type_refusal bytes =
    if nat_lt 63 (slice_index bytes 0) then Some NotStun
    else if nat_lt (length bytes) 2 then Some (Truncated 2 (length bytes))
    else None
