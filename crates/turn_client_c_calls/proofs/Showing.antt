-- What is written of a list, as far as there is room.
use Rattle.std.proofs.Common.{◌≡◌, ◌<◌, ◌≤◌, ℕ, zero, suc, List, [], ◌∷◌, ◌++◌, length, take, drop, slice_set, refl, sym, ap, ◌∙◌, arith}
use Rattle.turn_client_c_calls.specs.Visible.{listed_over}

module _ {A B : Type 0} (report : A → B) where
  -- The buffer is complete once the rest of the list is written after the elements written so far.
  abbrev pub IsUnderWay : (items : List A) (out : List B) → (rest : List A) (now : List B) → ℕ → Type 0
  IsUnderWay items out rest now i = listed_over report items out ≡ take i now ++ listed_over report rest (drop i now)

  none_left : (out : List B) → listed_over report [] out ≡ out
  none_left [] = refl
  none_left (o ∷ out) = refl

  pub none_visible : (out : List B) → out ≡ listed_over report [] out
  none_visible out = sym (none_left out)

  step : (x : A) (rest : List A) (now : List B) (i : ℕ) → i < length now
      → take i now ++ listed_over report (x ∷ rest) (drop i now) ≡ take (suc i) (slice_set now i (report x)) ++ listed_over report rest (drop (suc i) (slice_set now i (report x)))
  step x rest [] i less = absurd (omega (arith, less))
  step x rest (o ∷ now) zero less = refl
  step x rest (o ∷ now) (suc i) less = ap (λ (l : List B). o ∷ l) (step x rest now i (omega (arith, less)))

  pub continues : (items : List A) (out : List B) (x : A) (rest : List A) (now : List B) (i : ℕ) → i < length now → IsUnderWay items out (x ∷ rest) now i → IsUnderWay items out rest (slice_set now i (report x)) (suc i)
  continues items out x rest now i less is = is ∙ step x rest now i less

  full : (rest : List A) (now : List B) (i : ℕ) → length now ≤ i → take i now ++ listed_over report rest (drop i now) ≡ now
  full [] [] i less = none_in i
    where
      none_in : (i : ℕ) → take i [] ++ listed_over report [] (drop i []) ≡ []
      none_in zero = refl
      none_in (suc i) = refl
  full (x ∷ rest) [] i less = none_in i
    where
      none_in : (i : ℕ) → take i [] ++ listed_over report (x ∷ rest) (drop i []) ≡ []
      none_in zero = refl
      none_in (suc i) = refl
  full rest (o ∷ now) zero less = absurd (omega (arith, less))
  full rest (o ∷ now) (suc i) less = ap (λ (l : List B). o ∷ l) (full rest now i (omega (arith, less)))

  pub ends_full : (items : List A) (out : List B) (rest : List A) (now : List B) (i : ℕ) → length now ≤ i → IsUnderWay items out rest now i → now ≡ listed_over report items out
  ends_full items out rest now i less is = sym (is ∙ full rest now i less)

  joined : (now : List B) (i : ℕ) → take i now ++ drop i now ≡ now
  joined [] zero = refl
  joined [] (suc i) = refl
  joined (o ∷ now) zero = refl
  joined (o ∷ now) (suc i) = ap (λ (l : List B). o ∷ l) (joined now i)

  pub ends_early : (items : List A) (out : List B) (now : List B) (i : ℕ) → IsUnderWay items out [] now i → now ≡ listed_over report items out
  ends_early items out now i is = sym (is ∙ ap (λ (l : List B). take i now ++ l) (none_left (drop i now)) ∙ joined now i)
