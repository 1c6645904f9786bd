-- A chunk of the stream.
use Rattle.std.proofs.Common.{◌≡◌, ◌≢◌, ℕ, Bool, true, false, eqb, List, [], length, sym, ap, ◌∙◌}
use Rattle.std.specs.Bool.{MatchBool}

-- The case of a test that succeeds.
pub found_so : (b : Bool) (P N : Type 0) → b ≡ true → MatchBool b P N → P
found_so true P N is holds = holds
found_so false P N is holds = absurd (Prim.cc is)

-- Bytes whose length isn't 0 are not empty.
pub not_empty : (slice bytes : List ℕ) (b : Bool) → b ≡ eqb (length slice) 0 → b ≡ false → slice ≡ bytes → bytes ≢ []
not_empty slice bytes b is not_so same none = by (sym not_so ∙ is ∙ ap (λ (l : List ℕ). eqb (length l) 0) (same ∙ none))
  where
    by : false ≡ true → ⊥
    by wrong = Prim.cc wrong
