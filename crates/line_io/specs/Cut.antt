-- The lines of a text.
use Rattle.std.specs.Prelude.{ℕ, ◌==◌, ◌||◌, Bool, List, [], length, slice_index, Option, Some, None}
use Rattle.std.specs.List.{slice_split}

-- The lines of a text: the parts between its line feeds. The last may be empty.
abbrev pub lines_of : List ℕ → List (List ℕ)
lines_of text = slice_split (λ b. b == 10) text

-- The lines of the text after a line feed, if there is any.
abbrev pub lines_after : Option (List ℕ) → List (List ℕ)
lines_after None = []
lines_after (Some text) = lines_of text

-- Whether a line is to be skipped: an empty line, or a comment, which begins with `#`.
abbrev pub says_nothing : List ℕ → Bool
says_nothing line = length line == 0 || slice_index line 0 == 35
