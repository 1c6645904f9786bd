-- The bytes that a BYTES word names. The parameter `answers` holds the bytes of the results of the event
-- lines so far, the first line's first. They are empty for a result that has none.
use Rattle.std.specs.Prelude.{ℕ, ◌-◌, ◌==◌, nat_le, ◌&&◌, if◌then◌else◌, List, [], ◌∷◌, ◌++◌, map, drop, length, slice_get, slice_range, slice_index, Option, Some, None}
use Rattle.std.specs.Option.{option_map}
use Rattle.std.specs.List.{slice_split}
use Rattle.line_io.specs.LowerHex.{hex_bytes, is_dash}
use Rattle.turn_desk_trace.specs.TraceNumbers.{number}

-- The bytes of the result of the event line with this number. Event lines are counted from 1.
abbrev pub answer_of : List (List ℕ) → Option ℕ → Option (List ℕ)
answer_of answers None = None
answer_of answers (Some k) = if k == 0 then None else slice_get answers (k - 1)

-- The bytes from one index up to, not including, another.
abbrev pub range_of : Option (List ℕ) → Option ℕ → Option ℕ → Option (List ℕ)
range_of (Some bytes) (Some from) (Some to) =
    if nat_le from to && nat_le to (length bytes) then Some (slice_range bytes from to) else None
range_of (Some bytes) (Some from) None = None
range_of (Some bytes) None to = None
range_of None from to = None

-- The bytes that `k` or `k:a:b` names, from the words between the colons.
unfoldable pub reference_bytes : List (List ℕ) → List (List ℕ) → Option (List ℕ)
reference_bytes answers [] = None
reference_bytes answers (event ∷ []) = answer_of answers (number event)
reference_bytes answers (event ∷ from ∷ []) = None
reference_bytes answers (event ∷ from ∷ to ∷ []) = range_of (answer_of answers (number event)) (number from) (number to)
reference_bytes answers (event ∷ from ∷ to ∷ more ∷ rest) = None

-- The bytes, if there is at least one.
abbrev pub some_bytes : Option (List ℕ) → Option (List ℕ)
some_bytes None = None
some_bytes (Some []) = None
some_bytes (Some (b ∷ bs)) = Some (b ∷ bs)

-- The bytes of a part that names a result; `reference` is the part after its `@`.
abbrev pub answered_part : List (List ℕ) → List ℕ → Option (List ℕ)
answered_part answers reference = some_bytes (reference_bytes answers (slice_split (λ b. b == 58) reference))

-- The bytes that a part names. It begins with `@`, or is lower-case hex.
unfoldable pub part_bytes : List (List ℕ) → List ℕ → Option (List ℕ)
part_bytes answers chunk =
    if slice_index chunk 0 == 64 then answered_part answers (drop 1 chunk) else some_bytes (hex_bytes chunk)

-- The bytes `bytes`, followed by `others` if those are given.
abbrev pub prepend : List ℕ → Option (List ℕ) → Option (List ℕ)
prepend bytes others = option_map (λ rest. bytes ++ rest) others

-- The bytes of one part, followed by those of the parts after it.
abbrev pub both : Option (List ℕ) → Option (List ℕ) → Option (List ℕ)
both None others = None
both (Some bytes) others = prepend bytes others

-- The bytes of the parts in order, if each part names some.
unfoldable pub joined : List (Option (List ℕ)) → Option (List ℕ)
joined [] = Some []
joined (bytes ∷ rest) = both bytes (joined rest)

-- The bytes that a BYTES word names: no bytes for `-`, otherwise those of the parts that `+` joins.
unfoldable pub named_bytes : List (List ℕ) → List ℕ → Option (List ℕ)
named_bytes answers word =
    if is_dash word then Some [] else joined (map (part_bytes answers) (slice_split (λ b. b == 43) word))
