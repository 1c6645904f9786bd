-- Results of searching a list of times.
use Rattle.std.specs.Prelude.{ℕ, ◌<◌, ◌≤◌, List, length, slice_index}

-- Every time in the list is later than `now`.
abbrev pub AllLater : ℕ → List ℕ → Type 0
AllLater now times = (k : ℕ) → k < length times → now < slice_index times k

-- The index is the first one whose time is at or before `now`.
pub record IsFirst (now : ℕ) (times : List ℕ) (position : ℕ) : Type 0 where
  pub within : position < length times
  pub reached : slice_index times position ≤ now
  pub first : (k : ℕ) → k < position → now < slice_index times k
