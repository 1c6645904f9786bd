-- Which results later lines can name, and what is stored of results.
use Rattle.std.specs.Prelude.{◌≡◌, ℕ, ◌-◌, ◌==◌, Bool, true, List, [], ◌∷◌, drop, get_or, slice_index, Option, Some, None, All, if◌then◌else◌}
use Rattle.std.specs.List.{slice_split}
use Rattle.std.specs.Str.{IsUtf8}
use Rattle.turn_desk_trace.specs.TraceNumbers.{number}
use Rattle.turn_desk_world.specs.Progress.{Progress}

-- The index of the result of the event line with this number. Event lines are counted from 1.
abbrev pub index_of : Option ℕ → Option ℕ
index_of None = None
index_of (Some k) = if k == 0 then None else Some (k - 1)

-- The index that `k` or `k:a:b` names, from the words between the colons.
abbrev pub index_in : List (List ℕ) → Option ℕ
index_in [] = None
index_in (event ∷ rest) = index_of (number event)

-- The index that a part of a BYTES word names, if it begins with `@`.
unfoldable pub named_index : List ℕ → Option ℕ
named_index chunk =
    if slice_index chunk 0 == 64 then index_in (slice_split (λ b. b == 58) (drop 1 chunk)) else None

-- Whether the result at this index is stored. There is a flag for each index; a result beyond the flags is
-- stored.
abbrev pub is_wanted : List Bool → ℕ → Bool
is_wanted flags index = get_or flags index true

abbrev pub IsWanted : List Bool → Option ℕ → Type 0
IsWanted flags None = Unit {0}
IsWanted flags (Some index) = is_wanted flags index ≡ true

-- The results that a part, a word or a line can name are stored.
abbrev pub IsPartCovered : List Bool → List ℕ → Type 0
IsPartCovered flags chunk = IsWanted flags (named_index chunk)

abbrev pub IsWordCovered : List Bool → List ℕ → Type 0
IsWordCovered flags word = All (IsPartCovered flags) (slice_split (λ b. b == 43) word)

-- A line that is not UTF-8 names none.
abbrev pub IsCovered : List Bool → List ℕ → Type 0
IsCovered flags line = IsUtf8 line → All (IsWordCovered flags) (slice_split (λ b. b == 32) line)

-- Each flag that was set is still set.
abbrev pub StaysWanted : List Bool → List Bool → Type 0
StaysWanted old new = (index : ℕ) → is_wanted old index ≡ true → is_wanted new index ≡ true

-- What is stored of the bytes of one result.
abbrev pub stored_if : Bool → List ℕ → List ℕ
stored_if wanted bytes = if wanted then bytes else []

-- What is stored of the bytes of all results: those that a later line can name.
unfoldable pub stored_of : List Bool → List (List ℕ) → List (List ℕ)
stored_of flags [] = []
stored_of [] (bytes ∷ rest) = bytes ∷ rest
stored_of (flag ∷ flags) (bytes ∷ rest) = stored_if flag bytes ∷ stored_of flags rest

-- The state of a replay, with only the stored results.
abbrev pub cut : List Bool → Progress → Progress
cut flags p = record p { named = stored_of flags p.named }
