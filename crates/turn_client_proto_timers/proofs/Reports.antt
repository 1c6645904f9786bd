-- Lists of events that are joined, and when they are not empty.
use Rattle.std.proofs.Common.{◌≡◌, List, [], ◌∷◌, ◌++◌, map, refl, ap, ◌∙◌, append_assoc}
use Rattle.std.specs.List.{flat_map}

-- Four lists, appended one after another.
pub in_turn : {X : Type 0} (all one two three four : List X) → (((all ++ one) ++ two) ++ three) ++ four ≡ all ++ (one ++ (two ++ (three ++ four)))
in_turn all one two three four = simp append_assoc

-- If two joined lists are empty, each of them is.
pub none_left : {X : Type 0} (xs ys : List X) → xs ++ ys ≡ [] → xs ≡ []
none_left [] ys none = refl
none_left (x ∷ xs) ys none = absurd (Prim.cc none)

pub none_right : {X : Type 0} (xs ys : List X) → xs ++ ys ≡ [] → ys ≡ []
none_right [] ys none = none
none_right (x ∷ xs) ys none = absurd (Prim.cc none)

-- If a mapped list is empty, so is the list.
pub none_mapped : {X Y : Type 0} (f : X → Y) (xs : List X) → map f xs ≡ [] → xs ≡ []
none_mapped f [] none = refl
none_mapped f (x ∷ xs) none = absurd (Prim.cc none)

-- If `f` gives nothing for any element, and `g` gives nothing wherever `f` does, then `g` gives nothing for
-- any element.
pub none_decoded : {X Y Z : Type 0} (f : X → List Y) (g : X → List Z) → ((x : X) → f x ≡ [] → g x ≡ []) → (xs : List X) → flat_map f xs ≡ [] → flat_map g xs ≡ []
none_decoded f g part [] none = refl
none_decoded {Z = Z} f g part (x ∷ xs) none =
    ap (λ (l : List Z). l ++ flat_map g xs) (part x (none_left (f x) (flat_map f xs) none))
    ∙ none_decoded f g part xs (none_right (f x) (flat_map f xs) none)

-- Mapping twice is mapping with the composition.
pub each_changed : {X Y Z : Type 0} (f : Y → Z) (g : X → Y) (xs : List X) → map f (map g xs) ≡ map (λ x. f (g x)) xs
each_changed f g [] = refl
each_changed {Z = Z} f g (x ∷ xs) = ap (λ (l : List Z). f (g x) ∷ l) (each_changed f g xs)

pub reported_changed : {X Y Z : Type 0} (f : Y → List Z) (g : X → Y) (xs : List X) → flat_map f (map g xs) ≡ flat_map (λ x. f (g x)) xs
reported_changed f g [] = refl
reported_changed {Z = Z} f g (x ∷ xs) = ap (λ (l : List Z). f (g x) ++ l) (reported_changed f g xs)
