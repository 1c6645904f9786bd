-- Attributes that hold a text.
use Rattle.std.specs.Prelude.{ℕ, nat_lt, List, length, Option, Some, None, if◌then◌else◌}
use Rattle.stun_types_write.specs.Wire.declared.error.StunWriteError.{StunWriteError}
use Rattle.stun_types_write.specs.Wire.declared.error.StunWriteError.TheVariants.{TooLarge}

-- Why a text attribute of at most `most` bytes can't be made of a text.
abbrev pub text_refusal : ℕ → List ℕ → Option StunWriteError
text_refusal most text = if nat_lt most (length text) then Some (TooLarge most (length text)) else None
