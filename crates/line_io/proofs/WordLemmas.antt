-- The words of a line.
use Rattle.std.proofs.Common.{ℕ, ◌≡◌, List, [], ◌∷◌, length, sym, refl, ◌∙◌, ap, Bor}
use Rattle.std.specs.Prelude.{map, ◌==◌, ◌||◌}
use Rattle.std.specs.List.{list_any}
use Rattle.line_io.specs.LineWords.{AreWords}

-- Testing whether a borrowed word is empty tests the word itself.
pub any_now : (words : List (Bor (List ℕ)))
    → list_any (λ word. length word == 0) (map (λ x. x.now) words) ≡ list_any (λ x. length x.now == 0) words
any_now [] = refl
any_now (word ∷ words) = ap (λ rest. (length word.now == 0) || rest) (any_now words)

-- A text has at most one list of words.
pub same_words : (text : List ℕ) (first second : List (List ℕ)) → AreWords text first → AreWords text second → first ≡ second
same_words text first second one other = one.parted ∙ sym other.parted
