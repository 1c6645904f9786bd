-- Entries sorted by transaction ID.
use Rattle.std.specs.Prelude.{◌≡◌, ℕ, ◌<◌, ◌≤◌, List, length, slice_index_or}

-- The keys are strictly increasing.
abbrev pub IsStrictlySorted : {X : Type 0} → List (ℕ × X) → Type 0
IsStrictlySorted {X} l = (i j : ℕ) (d : ℕ × X) → i < j → j < length l
    → (slice_index_or l i d).0 < (slice_index_or l j d).0

-- The entry at this index has this key.
pub record IsAt {X : Type 0} (l : List (ℕ × X)) (transaction_id position : ℕ) : Type 0 where
  pub within : position < length l
  pub same : (d : ℕ × X) → (slice_index_or l position d).0 ≡ transaction_id

-- The key is missing and belongs at this index: smaller keys precede it, and greater ones start there.
pub record IsGap {X : Type 0} (l : List (ℕ × X)) (transaction_id position : ℕ) : Type 0 where
  pub within : position ≤ length l
  pub smaller : (j : ℕ) (d : ℕ × X) → j < position → (slice_index_or l j d).0 < transaction_id
  pub greater : (j : ℕ) (d : ℕ × X) → position ≤ j → j < length l → transaction_id < (slice_index_or l j d).0
