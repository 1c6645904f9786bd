-- What is taken from a reader.
use Rattle.std.specs.Prelude.{ℕ, ◌≡◌, ◌≤◌, ◌++◌, Bool, List, length, Option, Result, OnOk}
use Rattle.std.specs.List.{AllByRecursion}
use Rattle.line_io.specs.Cut.{lines_of}
use Rattle.std.specs.Io.KnownBytes.{Consumes, IsAtEnd}

-- At most this many bytes were taken from the reader. This says something only if the bytes that the reader
-- gives are known.
abbrev pub TakesAtMost : ℕ → Option (List ℕ) → Option (List ℕ) → Type 0
TakesAtMost most old new = (taken : List ℕ) × Consumes old new taken × (length taken ≤ most)

-- All bytes of the reader were taken, and there are at most this many. This says something only if the bytes
-- that the reader gives are known.
abbrev pub TakesAll : ℕ → Option (List ℕ) → Option (List ℕ) → Type 0
TakesAll most old new = (taken : List ℕ) × Consumes old new taken × (length taken ≤ most) × IsAtEnd new

-- All bytes of the reader were taken, and each of their lines passes.
abbrev pub TakesLines : (List ℕ → Type 0) → Option (List ℕ) → Option (List ℕ) → Type 0
TakesLines Passes old new = (taken : List ℕ) × Consumes old new taken × IsAtEnd new
    × AllByRecursion Passes (lines_of taken)

-- At most this many bytes were taken. On success they were appended to the bytes from before.
abbrev pub ReadsOn : {E : Type 0} → ℕ → Option (List ℕ) → Option (List ℕ) → List ℕ → List ℕ → Result Bool E → Type 0
ReadsOn most old new before after result =
    (taken : List ℕ) × Consumes old new taken × (length taken ≤ most) × OnOk result (after ≡ before ++ taken)
