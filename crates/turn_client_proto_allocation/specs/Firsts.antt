-- The elements of a list without those that are like an earlier one.
use Rattle.std.specs.Prelude.{Bool, not, List, [], ◌∷◌, filter}

-- The elements that are not like an earlier one.
abbrev pub first_of_each : {X : Type 0} → (X → X → Bool) → List X → List X
first_of_each like [] = []
first_of_each like (x ∷ rest) = x ∷ filter (λ y. not (like x y)) (first_of_each like rest)
