-- A list of which the first `i` elements were changed.
use Rattle.std.proofs.Common.{◌≡◌, ℕ, zero, suc, ◌<◌, List, [], ◌∷◌, ◌++◌, drop, get_or, length, map, refl, take, ap, ◌∙◌, arith}

untouched_in : {X : Type 0} (f : X → X) (all : List X) (i : ℕ) (x : X) → i < length all → get_or (map f (take i all) ++ drop i all) i x ≡ get_or all i x
untouched_in f [] i x within = absurd (omega (arith, within))
untouched_in f (y ∷ all) zero x within = refl
untouched_in f (y ∷ all) (suc i) x within = untouched_in f all i x (omega (arith, within))

-- The element after them is as it was.
pub untouched : {X : Type 0} (f : X → X) (all left : List X) (i : ℕ) (x : X) → i < length all → left ≡ map f (take i all) ++ drop i all → get_or left i x ≡ get_or all i x
untouched {X = X} f all left i x within is = ap (λ (l : List X). get_or l i x) is ∙ untouched_in f all i x within
