-- A borrowed list after the borrow has ended: one element was changed.
use Rattle.std.proofs.Common.{◌≡◌, ℕ, suc, ◌<◌, Bool, true, false, if◌then◌else◌, List, [], ◌∷◌, ◌++◌, map, Some, get_or, length, take, drop, slice_get, slice_set, subst, ap, refl, sym, ◌∙◌}
use Rattle.std.specs.Prelude.{IfSome, OnErr, Result, Ok, Err}
use Rattle.std.proofs.lemmas.List.{length-map, length-set}
use Rattle.std.proofs.lemmas.Option.{slice_get_read}
use Rattle.turn_client_proto_allocation.proofs.Prefixes.{head_stored}
use Rattle.turn_client_proto_allocation.specs.Changes.{change_first}
use Rattle.turn_client_proto_allocation.proofs.SetAgain.{set_again}

-- As many elements are there as before the borrow.
pub lent_back : {X : Type 0} (all left : List X) → length left ≡ length all → take (length all) (left ++ drop (length left) all) ≡ left
lent_back all left many =
    subst (λ (n : ℕ). take n (left ++ drop (length left) all) ≡ left) many (head_stored left (drop (length left) all))

set_as_long : {X : Type 0} (all lent : List X) (index : ℕ) (new : X) → lent ≡ all → length (slice_set lent index new) ≡ length all
set_as_long all lent index new same = length-set lent index new ∙ ap (λ l. length l) same

set_in : {X : Type 0} (all lent : List X) (index : ℕ) (new : X) → lent ≡ all → take (length all) (slice_set lent index new ++ drop (length (slice_set lent index new)) all) ≡ slice_set all index new
set_in all lent index new same =
    lent_back all (slice_set lent index new) (set_as_long all lent index new same) ∙ ap (λ l. slice_set l index new) same

read_in : {X : Type 0} (all lent : List X) (index : ℕ) (x : X) → lent ≡ all → index < length all → x ≡ get_or lent index x → slice_get all index ≡ Some x
read_in all lent index x same within is = slice_get_read all (length all) index x refl within (is ∙ ap (λ l. get_or l index x) same)

-- The element at an index was changed.
pub changed_in : {X : Type 0} (f : X → X) (all lent : List X) (index : ℕ) (x new : X) → lent ≡ all → index < length all → x ≡ get_or lent index x → new ≡ f x
    → IfSome (slice_get all index) (λ a. take (length all) (slice_set lent index new ++ drop (length (slice_set lent index new)) all) ≡ slice_set all index (f a))
changed_in {X = X} f all lent index x new same within is made =
    subst (λ o. IfSome o (λ (a : X). take (length all) (slice_set lent index new ++ drop (length (slice_set lent index new)) all) ≡ slice_set all index (f a)))
    (sym (read_in all lent index x same within is))
    (set_in all lent index new same ∙ ap (λ y. slice_set all index y) made)

-- The element at an index is as it was.
pub stored_in : {X : Type 0} (all lent : List X) (index : ℕ) (x new : X) → lent ≡ all → index < length all → x ≡ get_or lent index x → new ≡ x
    → take (length all) (slice_set lent index new ++ drop (length (slice_set lent index new)) all) ≡ all
stored_in all lent index x new same within is made =
    let there = read_in all lent index x same within is in
    set_in all lent index new same ∙ ap (λ y. slice_set all index y) made ∙ set_again all index x there

-- A fact that follows if a call failed.
pub on_err : {R E A B : Type 0} (r : Result R E) → (A → B) → OnErr r A → OnErr r B
on_err (Ok x) f h = h
on_err (Err e) f h = f h

-- Changing the first element that passes leaves the length of a list as it was.
pub length-change_first : {X : Type 0} (passes : X → Bool) (f : X → X) (xs : List X) → length (change_first passes f xs) ≡ length xs
length-change_first passes f [] = refl
length-change_first passes f (x ∷ xs) = elim (passes x) as (λ b. length (if b then f x ∷ xs else x ∷ change_first passes f xs) ≡ suc (length xs)) [
  | true ↦ refl
  | false ↦ ap suc (length-change_first passes f xs)
]

-- The first element that passes was changed.
pub first_back : {X : Type 0} (passes : X → Bool) (f : X → X) (all lent left : List X) → lent ≡ all → left ≡ change_first passes f lent
    → take (length all) (left ++ drop (length left) all) ≡ change_first passes f all
first_back passes f all lent left same is =
    let new = is ∙ ap (λ l. change_first passes f l) same in
    lent_back all left (ap (λ l. length l) new ∙ length-change_first passes f all) ∙ new

-- A borrowed list that was not changed is as it was.
pub same_back : {X : Type 0} (all lent left : List X) → lent ≡ all → left ≡ lent → take (length all) (left ++ drop (length left) all) ≡ all
same_back all lent left same is = lent_back all left (ap (λ l. length l) (is ∙ same)) ∙ is ∙ same

-- Each element was changed.
pub each_back : {X : Type 0} (f : X → X) (all lent left : List X) → lent ≡ all → left ≡ map f lent
    → take (length all) (left ++ drop (length left) all) ≡ map f all
each_back f all lent left same is =
    let new = is ∙ ap (λ l. map f l) same in
    lent_back all left (ap (λ l. length l) new ∙ length-map all f) ∙ new
