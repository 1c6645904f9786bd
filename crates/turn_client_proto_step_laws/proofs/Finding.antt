-- What is found in a list after one element was changed, or some were removed.
use Rattle.std.proofs.Common.{◌≡◌, Bool, true, false, ◌||◌, List, [], ◌∷◌, Some, refl, sym, ap, ◌∙◌, ◌⊎◌, inl, inr}
use Rattle.std.proofs.lemmas.Bool.{cases_Bool}
use Rattle.std.specs.Prelude.{map}
use Rattle.std.specs.List.{filter, find, list_any}
use Rattle.turn_client_proto_timers.specs.Allocation.Changes.{change_first}
use Rattle.turn_client_proto_step_laws.proofs.Lists.{inside}

-- ---- the first that passes one test is changed, and another test is not touched by that

module _ {X : Type 0} (p : X → Bool) (f : X → X) (q : X → Bool) (same : (x : X) → q (f x) ≡ q x) where
  -- What is found then was found before, or is the changed element.
  pub found_changed : (xs : List X) (y : X) → find q (change_first p f xs) ≡ Some y → (x : X) × (find q xs ≡ Some x) × ((y ≡ x) ⊎ (y ≡ f x))
  found_changed [] y h = absurd (Prim.cc h)
  found_changed (x ∷ xs) y h = elim (cases_Bool (p x)) [
    | inl is ↦
        let changed : change_first p f (x ∷ xs) ≡ f x ∷ xs = rw is refl in
        let at : find q (f x ∷ xs) ≡ Some y = ap (find q) (sym changed) ∙ h in
        elim (cases_Bool (q x)) [
          | inl passes ↦
              let after : q (f x) ≡ true = same x ∙ passes in
              let here : find q (x ∷ xs) ≡ Some x = rw passes refl in
              let there : find q (f x ∷ xs) ≡ Some (f x) = rw after refl in
              (x, here, inr (inside (sym at ∙ there)))
          | inr fails ↦
              let after : q (f x) ≡ false = same x ∙ fails in
              let here : find q (x ∷ xs) ≡ find q xs = rw fails refl in
              let there : find q (f x ∷ xs) ≡ find q xs = rw after refl in
              (y, here ∙ sym there ∙ at, inl refl)
        ]
    | inr differs ↦
        let stored : change_first p f (x ∷ xs) ≡ x ∷ change_first p f xs = rw differs refl in
        let at : find q (x ∷ change_first p f xs) ≡ Some y = ap (find q) (sym stored) ∙ h in
        elim (cases_Bool (q x)) [
          | inl passes ↦
              let here : find q (x ∷ xs) ≡ Some x = rw passes refl in
              let there : find q (x ∷ change_first p f xs) ≡ Some x = rw passes refl in
              (x, here, inl (inside (sym at ∙ there)))
          | inr fails ↦
              let here : find q (x ∷ xs) ≡ find q xs = rw fails refl in
              let there : find q (x ∷ change_first p f xs) ≡ find q (change_first p f xs) = rw fails refl in
              let later = found_changed xs y (sym there ∙ at) in
              (later.0, here ∙ later.1, later.2)
        ]
  ]

  -- Whether some element passes does not change.
  pub any_changed : (xs : List X) → list_any q (change_first p f xs) ≡ list_any q xs
  any_changed [] = refl
  any_changed (x ∷ xs) = elim (cases_Bool (p x)) [
    | inl is ↦
        let changed : change_first p f (x ∷ xs) ≡ f x ∷ xs = rw is refl in
        ap (list_any q) changed ∙ ap (λ (b : Bool). b || list_any q xs) (same x)
    | inr differs ↦
        let stored : change_first p f (x ∷ xs) ≡ x ∷ change_first p f xs = rw differs refl in
        ap (list_any q) stored ∙ ap (λ (b : Bool). q x || b) (any_changed xs)
  ]

-- ---- some are gone that do not pass

module _ {X : Type 0} (r q : X → Bool) (stays : (x : X) → q x ≡ true → r x ≡ true) where
  pub found_left : (xs : List X) → find q (filter r xs) ≡ find q xs
  found_left [] = refl
  found_left (x ∷ xs) = elim (cases_Bool (q x)) [
    | inl passes ↦
        let left : filter r (x ∷ xs) ≡ x ∷ filter r xs = rw (stays x passes) refl in
        let here : find q (x ∷ xs) ≡ Some x = rw passes refl in
        let there : find q (x ∷ filter r xs) ≡ Some x = rw passes refl in
        ap (find q) left ∙ there ∙ sym here
    | inr fails ↦
        let here : find q (x ∷ xs) ≡ find q xs = rw fails refl in
        elim (cases_Bool (r x)) [
          | inl is ↦
              let left : filter r (x ∷ xs) ≡ x ∷ filter r xs = rw is refl in
              let there : find q (x ∷ filter r xs) ≡ find q (filter r xs) = rw fails refl in
              ap (find q) left ∙ there ∙ found_left xs ∙ sym here
          | inr gone ↦
              let left : filter r (x ∷ xs) ≡ filter r xs = rw gone refl in
              ap (find q) left ∙ found_left xs ∙ sym here
        ]
  ]

  pub any_left : (xs : List X) → list_any q (filter r xs) ≡ list_any q xs
  any_left [] = refl
  any_left (x ∷ xs) = elim (cases_Bool (r x)) [
    | inl is ↦
        let left : filter r (x ∷ xs) ≡ x ∷ filter r xs = rw is refl in
        ap (list_any q) left ∙ ap (λ (b : Bool). q x || b) (any_left xs)
    | inr gone ↦
        let left : filter r (x ∷ xs) ≡ filter r xs = rw gone refl in
        ap (list_any q) left ∙ any_left xs ∙ sym (ap (λ (b : Bool). b || list_any q xs) (fails x gone))
  ]
    where
      fails : (y : X) → r y ≡ false → q y ≡ false
      fails y gone = elim (cases_Bool (q y)) [
        | inl passes ↦ absurd (Prim.cc (sym (stays y passes) ∙ gone))
        | inr is ↦ is
      ]

-- ---- each is changed, and a test is not touched by that

module _ {X : Type 0} (f : X → X) (q : X → Bool) (same : (x : X) → q (f x) ≡ q x) where
  pub found_image : (xs : List X) (y : X) → find q (map f xs) ≡ Some y → (x : X) × (find q xs ≡ Some x) × (y ≡ f x)
  found_image [] y h = absurd (Prim.cc h)
  found_image (x ∷ xs) y h = elim (cases_Bool (q x)) [
    | inl passes ↦
        let after : q (f x) ≡ true = same x ∙ passes in
        let here : find q (x ∷ xs) ≡ Some x = rw passes refl in
        let there : find q (f x ∷ map f xs) ≡ Some (f x) = rw after refl in
        (x, here, inside (sym h ∙ there))
    | inr fails ↦
        let after : q (f x) ≡ false = same x ∙ fails in
        let here : find q (x ∷ xs) ≡ find q xs = rw fails refl in
        let there : find q (f x ∷ map f xs) ≡ find q (map f xs) = rw after refl in
        let later = found_image xs y (sym there ∙ h) in
        (later.0, here ∙ later.1, later.2)
  ]
