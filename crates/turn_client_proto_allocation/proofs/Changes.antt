-- Changing the first element that passes a test, by its index.
use Rattle.std.proofs.Common.{◌≡◌, ℕ, ◌≤◌, Bool, List, [], ◌∷◌, length, Option, Some, None, position, slice_set, slice_get, refl, ap, sym, ◌∙◌, arith, get_or, inl, inr}
use Rattle.std.specs.Prelude.{◌≢◌, find, IfSome, OnOk, Result, Ok, Err}
use Rattle.std.proofs.lemmas.List.Quantifiers.{position-Some}
use Rattle.std.proofs.lemmas.Option.{slice_get_cases, slice_get_read}
use Rattle.std.specs.List.{position_or_len}
use Rattle.std.proofs.lemmas.Bool.Decides.{nat_tests}
use Rattle.std.proofs.lemmas.List.Folds.{find_at}
use Rattle.turn_client_proto_allocation.specs.Changes.{change_first}

-- The element at an index, if there is an index.
abbrev pub at_index : {X : Type 0} → List X → Option ℕ → Option X
at_index xs None = None
at_index xs (Some i) = slice_get xs i

index_none : {X : Type 0} (p : X → Bool) (xs : List X) → position p xs ≡ None → length xs ≤ position_or_len p xs
index_none p xs h = grind (arith, nat_tests)

index_some : {X : Type 0} (p : X → Bool) (xs : List X) (i : ℕ) → position p xs ≡ Some i → position_or_len p xs ≡ i
index_some p xs i h = grind (arith, nat_tests)

none_by_index : {X : Type 0} (p : X → Bool) (f : X → X) (xs : List X) → length xs ≤ position_or_len p xs → change_first p f xs ≡ xs
none_by_index p f [] h = refl
none_by_index p f (x ∷ xs) h = grind (arith, nat_tests, none_by_index p f xs)

-- If nothing passes, nothing changes.
pub change_first_none : {X : Type 0} (p : X → Bool) (f : X → X) (xs : List X) → position p xs ≡ None → change_first p f xs ≡ xs
change_first_none p f xs h = none_by_index p f xs (index_none p xs h)

find_none_by_index : {X : Type 0} (p : X → Bool) (xs : List X) → length xs ≤ position_or_len p xs → find p xs ≡ None
find_none_by_index p [] h = refl
find_none_by_index p (x ∷ xs) h = grind (arith, nat_tests, find_none_by_index p xs)

find_none : {X : Type 0} (p : X → Bool) (xs : List X) → position p xs ≡ None → find p xs ≡ None
find_none p xs h = find_none_by_index p xs (index_none p xs h)

change_by_index : {X : Type 0} (p : X → Bool) (f : X → X) (xs : List X) (x : X) → slice_get xs (position_or_len p xs) ≡ Some x → slice_set xs (position_or_len p xs) (f x) ≡ change_first p f xs
change_by_index p f [] x g = refl
change_by_index p f (y ∷ ys) x g = grind (arith, nat_tests, change_by_index p f ys x)

-- The element at the index that was found is the one that is changed.
pub change_first_at : {X : Type 0} (p : X → Bool) (f : X → X) (xs : List X) (i : ℕ) (x : X) → position p xs ≡ Some i → slice_get xs i ≡ Some x → slice_set xs i (f x) ≡ change_first p f xs
change_first_at p f xs i x h g =
    let e = index_some p xs i h in
    let at : slice_get xs (position_or_len p xs) ≡ Some x = rw e g in
    rw (sym e) (change_by_index p f xs x at)

-- What is found is the element at the index that was found.
pub find_is : {X : Type 0} (p : X → Bool) (xs : List X) → find p xs ≡ at_index xs (position p xs)
find_is p xs = by_index (position p xs) refl
  where
    by_index : (r : Option ℕ) → position p xs ≡ r → find p xs ≡ at_index xs r
    by_index None h = find_none p xs h
    by_index (Some i) h = find_at p xs ∙ ap (λ k. slice_get xs k) (index_some p xs i h)

-- What is found is the element that was read at the index that was found.
pub found_at : {X : Type 0} (p : X → Bool) (xs : List X) (i : ℕ) (x : X) → position p xs ≡ Some i → x ≡ get_or xs i x → find p xs ≡ Some x
found_at p xs i x index is =
    find_is p xs ∙ ap (at_index xs) index ∙ slice_get_read xs (length xs) i x refl (position-Some p xs i x index).0 is

by_cases : {X : Type 0} (p : X → Bool) (f : X → X) (xs new : List X) (i : ℕ) (found : Option X) → slice_get xs i ≡ found → position p xs ≡ Some i → IfSome found (λ x. new ≡ slice_set xs i (f x)) → found ≢ None → new ≡ change_first p f xs
by_cases p f xs new i None at index is some = absurd (some refl)
by_cases p f xs new i (Some x) at index is some = is ∙ change_first_at p f xs i x index at

-- If the element at the index that was found was changed, the first one that passes was changed.
pub changed_at : {X : Type 0} (p : X → Bool) (f : X → X) (xs new : List X) (i : ℕ) → position p xs ≡ Some i → IfSome (slice_get xs i) (λ x. new ≡ slice_set xs i (f x)) → new ≡ change_first p f xs
changed_at p f xs new i index is = by_cases p f xs new i (slice_get xs i) refl index is (λ none. within none)
  where
    within : slice_get xs i ≡ None → ⊥
    within none = elim (slice_get_cases xs i).1 [
      | inl there ↦ absurd (Prim.cc (sym there.2 ∙ none))
      | inr past ↦ elim xs as (λ ys. position p ys ≡ Some i → length ys ≤ i → ⊥) [
        | [] ↦ λ nowhere _. absurd (Prim.cc nowhere)
        | (y ∷ ys) ↦ λ here long. let lt = (position-Some p (y ∷ ys) i y here).0 in absurd (omega (arith, lt, long))
      ] index past.0
    ]

-- A fact that follows if a call succeeded.
pub on_ok : {R E A B : Type 0} (r : Result R E) → (A → B) → OnOk r A → OnOk r B
on_ok (Ok x) f h = f h
on_ok (Err e) f h = h

-- If the element at the index that was found was read and a changed one was put there, the first one that
-- passes was changed.
pub put_there : {X : Type 0} (p : X → Bool) (f : X → X) (xs : List X) (i : ℕ) (x new : X) → position p xs ≡ Some i → x ≡ get_or xs i x → new ≡ f x → slice_set xs i new ≡ change_first p f xs
put_there p f xs i x new index is made =
    ap (λ y. slice_set xs i y) made ∙ change_first_at p f xs i x index (slice_get_read xs (length xs) i x refl (position-Some p xs i x index).0 is)

-- The first element that passes, by its index.
pub ruleset first_by_index = (change_first_at, change_first_none, find_is)
