-- Lists of events that are not empty.
use Rattle.std.proofs.Common.{◌≡◌, ℕ, zero, suc, ◌<◌, Bool, true, List, [], ◌∷◌, ◌++◌, length, map, filter, get_or, arith, refl}
use Rattle.std.specs.Prelude.{◌≢◌, OnErr, Result, Ok, Err}
use Rattle.std.specs.List.{flat_map}
use Rattle.std.proofs.lemmas.Grind.{common_steps}

-- One element passes, so the filtered list is not empty.
pub some_pass : {X : Type 0} (p : X → Bool) (xs : List X) (i : ℕ) (d : X) → i < length xs → p (get_or xs i d) ≡ true → filter p xs ≢ []
some_pass p [] i d within passes = λ none. absurd (omega arith)
some_pass p (x ∷ xs) zero d within passes = λ none. grind (arith, common_steps, none, passes)
some_pass p (x ∷ xs) (suc i) d within passes = λ none. grind (arith, common_steps, none, passes, some_pass p xs i d)

-- A list that is not empty stays so if each element is changed, and if something is added.
pub map_some : {X Y : Type 0} (f : X → Y) (xs : List X) → xs ≢ [] → map f xs ≢ []
map_some f [] some = absurd (some refl)
map_some f (x ∷ xs) some = λ none. absurd (Prim.cc none)

pub left_some : {X : Type 0} (xs ys : List X) → xs ≢ [] → xs ++ ys ≢ []
left_some [] ys some = absurd (some refl)
left_some (x ∷ xs) ys some = λ none. absurd (Prim.cc none)

right_some : {X : Type 0} (xs ys : List X) → ys ≢ [] → xs ++ ys ≢ []
right_some [] ys some = some
right_some (x ∷ xs) ys some = λ none. absurd (Prim.cc none)

-- If one element has an event, the list of all events is not empty.
pub some_reported : {X Y : Type 0} (f : X → List Y) (xs : List X) (i : ℕ) (d : X) → i < length xs → f (get_or xs i d) ≢ [] → flat_map f xs ≢ []
some_reported f [] i d within some = λ none. absurd (omega arith)
some_reported f (x ∷ xs) zero d within some = left_some (f x) (flat_map f xs) some
some_reported f (x ∷ xs) (suc i) d within some = right_some (f x) (flat_map f xs) (some_reported f xs i d (omega arith) some)

-- A fact that always holds also holds if a call failed.
pub always_reported : {R E A : Type 0} (r : Result R E) → A → OnErr r A
always_reported (Ok x) a = tt
always_reported (Err e) a = a
