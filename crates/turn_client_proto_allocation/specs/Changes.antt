-- Changing one element of a list.
use Rattle.std.specs.Prelude.{Bool, List, [], ◌∷◌, ◌++◌, if◌then◌else◌}
use Rattle.std.specs.List.{after_first, before_first}

-- The list with the first element that passes changed.
abbrev pub change_first : {X : Type 0} → (X → Bool) → (X → X) → List X → List X
change_first passes change [] = []
change_first passes change (x ∷ rest) =
    if passes x then change x ∷ rest else x ∷ change_first passes change rest

-- The list without the first element that passes.
abbrev pub without_first : {X : Type 0} → (X → Bool) → List X → List X
without_first passes xs = before_first passes xs ++ after_first passes xs
