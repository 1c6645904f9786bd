-- If no socket is to be requested, requesting the first one changes nothing.
use Rattle.std.proofs.Common.{◌≡◌, Bool, true, List, [], ◌∷◌, Some, None, refl, sym, ap, ◌∙◌, inl, inr}
use Rattle.std.proofs.lemmas.Bool.{cases_Bool}
use Rattle.std.specs.List.{find, list_any}
use Rattle.turn_client_proto_allocation.specs.declared.allocation.Allocation.{Allocation}
use Rattle.turn_client_proto_connection.specs.Waiting.{all_requested, has_unasked, is_unasked, unasked}

-- If an element passes, one is found.
any_found : {X : Type 0} (p : X → Bool) (xs : List X) → list_any p xs ≡ true → find p xs ≡ None → ⊥
any_found p [] any none = absurd (Prim.cc any)
any_found p (x ∷ xs) any none = elim (cases_Bool (p x)) [
  | inl is ↦
      let here : find p (x ∷ xs) ≡ Some x = rw is refl in
      absurd (Prim.cc (sym here ∙ none))
  | inr not ↦
      let later : find p (x ∷ xs) ≡ find p xs = rw not refl in
      let rest : list_any p (x ∷ xs) ≡ list_any p xs = rw not refl in
      any_found p xs (sym rest ∙ any) (sym later ∙ none)
]

pub none_requested : (all : List Allocation) → unasked all ≡ None → all_requested all ≡ all
none_requested [] none = refl
none_requested (a ∷ rest) none = elim (cases_Bool (has_unasked a)) [
  | inl is ↦
      let here : unasked (a ∷ rest) ≡ find is_unasked a.waiting = rw is refl in
      absurd (any_found is_unasked a.waiting is (sym here ∙ none))
  | inr not ↦
      let later : unasked (a ∷ rest) ≡ unasked rest = rw not refl in
      let following : all_requested (a ∷ rest) ≡ a ∷ all_requested rest = rw not refl in
      following ∙ ap (λ (l : List Allocation). a ∷ l) (none_requested rest (sym later ∙ none))
]
