-- The bytes of a value, borrowed or owned.
use Rattle.std.specs.Prelude.{ℕ, List, Bool, true, false}
use Rattle.std.specs.Box.{boxed_slice_items}
use Rattle.stun_types_base.specs.declared.data.Data.{Data}
use Rattle.stun_types_base.specs.declared.data.Data.TheVariants.{Borrowed, Owned}

abbrev pub data_bytes : Data → List ℕ
data_bytes (Borrowed slice) = slice.0.now
data_bytes (Owned owned) = boxed_slice_items owned.0

-- Whether the bytes are owned.
abbrev pub is_owned : Data → Bool
is_owned (Borrowed _) = false
is_owned (Owned _) = true
