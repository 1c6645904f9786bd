-- The last attribute of a type, as one pass finds it.
use Rattle.std.proofs.Common.{◌≡◌, ℕ, List, [], ◌∷◌, fold, Option, Some, None, refl, sym, ap, ◌∙◌, inl, inr}
use Rattle.std.specs.Prelude.{find, reverse, if◌then◌else◌}
use Rattle.std.specs.Option.{option_and_then, option_map, option_or}
use Rattle.std.proofs.lemmas.Bool.{cases_Bool}
use Rattle.std.proofs.lemmas.List.{reverse-append}
use Rattle.std.proofs.lemmas.List.Folds.{find-append}
use Rattle.stun_types_wire.specs.Attributes.{Attr}
use Rattle.turn_client_proto_core.specs.TurnRuns.Indications.{is_kind}

-- The attribute if it has this type, else what was found before.
abbrev pub later : ℕ → Option (ℕ × Attr) → ℕ × Attr → Option (ℕ × Attr)
later kind found e = if is_kind kind e then Some e else found

or_none : {X : Type 0} (o : Option X) → option_or o None ≡ o
or_none None = refl
or_none (Some x) = refl

or_again : {X : Type 0} (a b c : Option X) → option_or (option_or a b) c ≡ option_or a (option_or b c)
or_again None b c = refl
or_again (Some x) b c = refl

module _ (kind : ℕ) where
  one : (x : ℕ × Attr) (found : Option (ℕ × Attr)) → option_or (find (is_kind kind) (x ∷ [])) found ≡ later kind found x
  one x found = elim (cases_Bool (is_kind kind x)) [ inl is ↦ rw is refl | inr not ↦ rw not refl ]

  walked : (xs : List (ℕ × Attr)) (found : Option (ℕ × Attr)) → fold (later kind) found xs ≡ option_or (find (is_kind kind) (reverse xs)) found
  walked [] found = refl
  walked (x ∷ xs) found =
      let following = find (is_kind kind) (reverse xs) in
      walked xs (later kind found x)
      ∙ ap (λ (o : Option (ℕ × Attr)). option_or following o) (sym (one x found))
      ∙ sym (or_again following (find (is_kind kind) (x ∷ [])) found)
      ∙ ap (λ (o : Option (ℕ × Attr)). option_or o found) (sym (find-append (is_kind kind) (reverse xs) (x ∷ [])))
      ∙ ap (λ (l : List (ℕ × Attr)). option_or (find (is_kind kind) l) found) (sym (reverse-append (x ∷ []) xs))

  -- The last attribute that a pass finds is the first one of the reversed list.
  pub last_is : (xs : List (ℕ × Attr)) → fold (later kind) None xs ≡ find (is_kind kind) (reverse xs)
  last_is xs = walked xs None ∙ or_none (find (is_kind kind) (reverse xs))

-- What the attribute decodes to if it has this type, else what was decoded before.
abbrev pub later_reported : {X : Type 0} → ℕ → (ℕ × Attr → Option X) → Option X → ℕ × Attr → Option X
later_reported kind decodes reported e = if is_kind kind e then decodes e else reported

module _ {X : Type 0} (kind : ℕ) (decodes : ℕ × Attr → Option X) where
  step_reported : (x : ℕ × Attr) (found : Option (ℕ × Attr)) (reported : Option X) → reported ≡ option_and_then decodes found
      → later_reported kind decodes reported x ≡ option_and_then decodes (later kind found x)
  step_reported x found reported is = elim (cases_Bool (is_kind kind x)) [ inl so ↦ rw so refl | inr not ↦ rw not is ]

  walk_reported : (xs : List (ℕ × Attr)) (found : Option (ℕ × Attr)) (reported : Option X) → reported ≡ option_and_then decodes found
      → fold (later_reported kind decodes) reported xs ≡ option_and_then decodes (fold (later kind) found xs)
  walk_reported [] found reported is = is
  walk_reported (x ∷ xs) found reported is = walk_reported xs (later kind found x) (later_reported kind decodes reported x) (step_reported x found reported is)

  -- A pass ends with what the last attribute of the type decodes to.
  pub last_reported : (xs : List (ℕ × Attr)) → fold (later_reported kind decodes) None xs ≡ option_and_then decodes (find (is_kind kind) (reverse xs))
  last_reported xs = walk_reported xs None None refl ∙ ap (option_and_then decodes) (last_is kind xs)

mapped : {X : Type 0} (decodes : ℕ × Attr → X) (o : Option (ℕ × Attr)) → option_and_then (λ e. Some (decodes e)) o ≡ option_map decodes o
mapped decodes None = refl
mapped decodes (Some e) = refl

pub last_mapped : {X : Type 0} (kind : ℕ) (decodes : ℕ × Attr → X) (xs : List (ℕ × Attr)) → fold (later_reported kind (λ e. Some (decodes e))) None xs ≡ option_map decodes (find (is_kind kind) (reverse xs))
last_mapped kind decodes xs = last_reported kind (λ e. Some (decodes e)) xs ∙ mapped decodes (find (is_kind kind) (reverse xs))
