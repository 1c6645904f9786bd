-- What is found in lists that change.
use Rattle.std.proofs.Common.{◌≡◌, ℕ, zero, suc, Bool, true, false, ◌||◌, List, [], ◌∷◌, ◌++◌, map, Some, None, refl, sym, ap, ◌∙◌, inl, inr}
use Rattle.std.specs.Prelude.{◌==◌}
use Rattle.std.proofs.lemmas.Bool.{cases_Bool, eqb-true}
use Rattle.std.specs.List.{filter, find, list_any, remove}
use Rattle.turn_client_proto_messages.specs.Allocation.Awaited.{has_number}
use Rattle.turn_client_proto_messages.specs.Allocation.Changes.{change_first}
use Rattle.turn_client_proto_messages.specs.TurnRuns.Members.{IsIn}
use Rattle.turn_client_proto_step_laws.proofs.Lists.{any_passes, in_changed, in_either, in_filter, in_map, inside}
use Rattle.turn_client_proto_progress_laws.specs.Asking.{NonePasses}

pub first_not : (a b : Bool) → (a || b) ≡ false → a ≡ false
first_not true b is = absurd (Prim.cc is)
first_not false b is = refl

pub second_not : (a b : Bool) → (a || b) ≡ false → b ≡ false
second_not true b is = absurd (Prim.cc is)
second_not false b is = is

pub not_both : {A : Type 0} (b : Bool) → b ≡ true → b ≡ false → A
not_both b t f = absurd (Prim.cc (sym t ∙ f))

-- A list of one transaction ID has no other.
pub only_one : (n number : ℕ) → has_number n (number ∷ []) ≡ true → n ≡ number
only_one n number has = elim (cases_Bool (number == n)) [
  | inl is ↦ sym (eqb-true number n is)
  | inr not ↦ (let here : has_number n (number ∷ []) ≡ false = rw not refl in not_both (has_number n (number ∷ [])) has here)
]

module _ {X : Type 0} (q : X → Bool) where
  -- ---- none passes

  pub none_of_any : (xs : List X) → list_any q xs ≡ false → NonePasses q xs
  none_of_any xs none x listed = elim (cases_Bool (q x)) [
    | inl is ↦ not_both (list_any q xs) (any_passes q xs x listed is) none
    | inr not ↦ not
  ]

  pub none_found : (xs : List X) → NonePasses q xs → find q xs ≡ None
  none_found [] none = refl
  none_found (x ∷ xs) none =
      let fails : q x ≡ false = none x (inl refl) in
      let later : find q (x ∷ xs) ≡ find q xs = rw fails refl in
      later ∙ none_found xs (λ y listed. none y (inr listed))

  pub none_more : (xs ys : List X) → NonePasses q xs → NonePasses q ys → NonePasses q (xs ++ ys)
  none_more xs ys one other x listed = elim (in_either x xs ys listed) [
    | inl a ↦ one x a
    | inr b ↦ other x b
  ]

  pub none_other : (x : X) → q x ≡ false → NonePasses q (x ∷ [])
  none_other x fails y listed = elim listed [
    | inl same ↦ ap q (sym same) ∙ fails
    | inr none ↦ absurd none
  ]

  pub none_left : (r : X → Bool) (xs : List X) → NonePasses q xs → NonePasses q (filter r xs)
  none_left r xs none x listed = none x (in_filter r x xs listed).0

  pub none_mapped : (f : X → X) → ((x : X) → q x ≡ false → q (f x) ≡ false) → (xs : List X) → NonePasses q xs → NonePasses q (map f xs)
  none_mapped f keeps xs none x listed =
      let image = in_map f x xs listed in
      ap q image.is ∙ keeps image.source (none image.source image.listed)

  pub none_changed : (r : X → Bool) (f : X → X) → ((x : X) → q x ≡ false → q (f x) ≡ false) → (xs : List X) → NonePasses q xs → NonePasses q (change_first r f xs)
  none_changed r f keeps xs none x listed = elim (in_changed r f x xs listed) [
    | inl was ↦ none x was
    | inr image ↦ ap q image.is ∙ keeps image.source (none image.source image.listed)
  ]

  in_removed : (x : X) (xs : List X) (index : ℕ) → IsIn x (remove xs index) → IsIn x xs
  in_removed x [] zero h = h
  in_removed x [] (suc index) h = h
  in_removed x (y ∷ xs) zero h = inr h
  in_removed x (y ∷ xs) (suc index) (inl same) = inl same
  in_removed x (y ∷ xs) (suc index) (inr later) = inr (in_removed x xs index later)

  pub none_removed : (index : ℕ) (xs : List X) → NonePasses q xs → NonePasses q (remove xs index)
  none_removed index xs none x listed = none x (in_removed x xs index listed)

  -- ---- one is found

  pub found_before : (xs ys : List X) (x : X) → find q xs ≡ Some x → find q (xs ++ ys) ≡ Some x
  found_before [] ys x is = absurd (Prim.cc is)
  found_before (y ∷ xs) ys x is = elim (cases_Bool (q y)) [
    | inl passes ↦
        let here : find q (y ∷ xs) ≡ Some y = rw passes refl in
        let there : find q (y ∷ (xs ++ ys)) ≡ Some y = rw passes refl in
        there ∙ sym here ∙ is
    | inr fails ↦
        let here : find q (y ∷ xs) ≡ find q xs = rw fails refl in
        let there : find q (y ∷ (xs ++ ys)) ≡ find q (xs ++ ys) = rw fails refl in
        there ∙ found_before xs ys x (sym here ∙ is)
  ]

  pub found_last : (xs : List X) (x : X) → NonePasses q xs → q x ≡ true → find q (xs ++ x ∷ []) ≡ Some x
  found_last [] x none is = rw is refl
  found_last (y ∷ xs) x none is =
      let fails : q y ≡ false = none y (inl refl) in
      let there : find q (y ∷ (xs ++ x ∷ [])) ≡ find q (xs ++ x ∷ []) = rw fails refl in
      there ∙ found_last xs x (λ z listed. none z (inr listed)) is

  pub found_stored : (r : X → Bool) (xs : List X) (x : X) → find q xs ≡ Some x → r x ≡ true → find q (filter r xs) ≡ Some x
  found_stored r [] x is stays = absurd (Prim.cc is)
  found_stored r (y ∷ xs) x is stays = elim (cases_Bool (q y)) [
    | inl passes ↦
        let here : find q (y ∷ xs) ≡ Some y = rw passes refl in
        let same : y ≡ x = inside (sym here ∙ is) in
        let stored : filter r (y ∷ xs) ≡ y ∷ filter r xs = (let stays_y : r y ≡ true = ap r same ∙ stays in rw stays_y refl) in
        let there : find q (y ∷ filter r xs) ≡ Some y = rw passes refl in
        ap (find q) stored ∙ there ∙ ap Some same
    | inr fails ↦
        let here : find q (y ∷ xs) ≡ find q xs = rw fails refl in
        let later = found_stored r xs x (sym here ∙ is) stays in
        elim (cases_Bool (r y)) [
          | inl keeps ↦
              let stored : filter r (y ∷ xs) ≡ y ∷ filter r xs = rw keeps refl in
              let there : find q (y ∷ filter r xs) ≡ find q (filter r xs) = rw fails refl in
              ap (find q) stored ∙ there ∙ later
          | inr gone ↦
              let stored : filter r (y ∷ xs) ≡ filter r xs = rw gone refl in
              ap (find q) stored ∙ later
        ]
  ]

  -- What is found in a list of one element.
  pub found_one : (x y : X) → find q (x ∷ []) ≡ Some y → (y ≡ x) × (q x ≡ true)
  found_one x y is = elim (cases_Bool (q x)) [
    | inl passes ↦
        let here : find q (x ∷ []) ≡ Some x = rw passes refl in
        (sym (inside (sym here ∙ is)), passes)
    | inr fails ↦
        let here : find q (x ∷ []) ≡ None = rw fails refl in
        absurd (Prim.cc (sym here ∙ is))
  ]

  pub one_found : (x : X) → q x ≡ true → find q (x ∷ []) ≡ Some x
  one_found x passes = rw passes refl

  pub one_changed : (f : X → X) (x : X) → q x ≡ true → change_first q f (x ∷ []) ≡ f x ∷ []
  one_changed f x passes = rw passes refl

  pub one_stored : (x : X) → q x ≡ true → filter q (x ∷ []) ≡ x ∷ []
  one_stored x passes = rw passes refl
