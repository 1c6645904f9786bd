-- Slots one after another: the first ones, and those that are not later than a time.
use Rattle.std.proofs.Common.{◌≡◌, ◌≤◌, ◌<◌, ◌+◌, ℕ, zero, suc, arith, Bool, cond, List, [], ◌∷◌, map, take, refl, sym, ap, ◌∙◌, ◌⊎◌, inl, inr}
use Rattle.std.specs.Prelude.{Contains, filter, nat_le}
use Rattle.std.specs.List.{range_with_len}
use Rattle.std.proofs.lemmas.Bool.{le-leb, lt-leb}

-- One of two numbers is less than the other, or not.
pub order : (a b : ℕ) → (a < b) ⊎ (b ≤ a)
order zero zero = inr (omega arith)
order zero (suc b) = inl (omega arith)
order (suc a) zero = inr (omega arith)
order (suc a) (suc b) = elim (order a b) [ inl less ↦ inl (omega (arith, less)) | inr more ↦ inr (omega (arith, more)) ]

module _ (slot : ℕ → ℕ) where
  -- The `many` slots from `index` on.
  abbrev pub slots_from : (index many : ℕ) → List ℕ
  slots_from index many = map slot (range_with_len index many)

  -- The first of many slots.
  pub first_taken : (index many total : ℕ) → many ≤ total → take many (slots_from index total) ≡ slots_from index many
  first_taken index zero total few = refl
  first_taken index (suc many) zero few = absurd (omega (arith, few))
  first_taken index (suc many) (suc total) few = ap (λ (l : List ℕ). slot index ∷ l) (first_taken (index + 1) many total (omega (arith, few)))

  -- One of the slots, by its index.
  pub contains_slot : (index many k now : ℕ) → k < many → now ≡ slot (index + k) → Contains (slots_from index many) now
  contains_slot index zero k now below at = absurd (omega (arith, below))
  contains_slot index (suc many) zero now below at =
      let here : index + 0 ≡ index = omega arith in
      (0, omega arith, sym (at ∙ ap slot here))
  contains_slot index (suc many) (suc k) now below at =
      let there : index + suc k ≡ (index + 1) + k = omega arith in
      let rest = contains_slot (index + 1) many k now (omega (arith, below)) (at ∙ ap slot there) in
      let less = rest.1 in
      (suc rest.0, omega (arith, less), rest.2)

  module _ (now : ℕ) where
    abbrev until : List ℕ → List ℕ
    until slots = filter (λ s. nat_le s now) slots

    abbrev by_test : (index : ℕ) (rest : List ℕ) → Bool → List ℕ
    by_test index rest b = cond b (slot index ∷ rest) rest

    -- If each slot is later, there is none up to now.
    none_until : (index many : ℕ) → ((k : ℕ) → index ≤ k → k < index + many → now < slot k) → until (slots_from index many) ≡ []
    none_until index zero later = refl
    none_until index (suc many) later =
        ap (by_test index (until (slots_from (index + 1) many))) (lt-leb (slot index) now (later index (omega arith) (omega arith)))
        ∙ none_until (index + 1) many (λ k from below. later k (omega (arith, from)) (omega (arith, below)))

    -- If the first slots are not later, and all others are, the first ones are those up to now.
    pub first_until : (index many total : ℕ) → many ≤ total → ((k : ℕ) → index ≤ k → k < index + many → slot k ≤ now)
        → ((k : ℕ) → index + many ≤ k → k < index + total → now < slot k) → until (slots_from index total) ≡ slots_from index many
    first_until index zero total few reached later = none_until index total (λ k from below. later k (omega (arith, from)) below)
    first_until index (suc many) zero few reached later = absurd (omega (arith, few))
    first_until index (suc many) (suc total) few reached later =
        ap (by_test index (until (slots_from (index + 1) total))) (le-leb (slot index) now (reached index (omega arith) (omega arith)))
        ∙ ap (λ (l : List ℕ). slot index ∷ l) (first_until (index + 1) many total (omega (arith, few))
        (λ k from below. reached k (omega (arith, from)) (omega (arith, below)))
        (λ k from below. later k (omega (arith, from)) (omega (arith, below))))
