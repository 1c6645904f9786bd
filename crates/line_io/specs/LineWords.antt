-- The words of a line.
use Rattle.std.specs.Prelude.{ℕ, ◌≡◌, ◌==◌, false, List, length}
use Rattle.std.specs.List.{slice_split, list_any}
use Rattle.std.specs.Str.{IsUtf8}

-- The text is UTF-8, and these words are its parts between single spaces. None of them is empty.
pub record AreWords (text : List ℕ) (words : List (List ℕ)) : Type 0 where
  pub utf8 : IsUtf8 text
  pub parted : words ≡ slice_split (λ b. b == 32) text
  pub filled : list_any (λ word. length word == 0) words ≡ false
