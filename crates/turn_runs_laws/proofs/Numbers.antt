-- Requests with the transaction IDs of a stream whose first ones are different.
use Rattle.std.proofs.Common.{◌≡◌, ◌≢◌, ℕ, ◌+◌, ◌<◌, ◌≤◌, List, [], ◌∷◌, inl, inr, ap, sym, ◌∙◌, arith}
use Rattle.turn_runs.specs.Members.{IsIn}
use Rattle.turn_runs.specs.Messages.{Message}
use Rattle.turn_runs.specs.Words.{Wire, ClientWords}
use Rattle.turn_runs.specs.Steps.{AreNumbered}

-- The requests are at increasing indexes of a stream, from one index to another.
abbrev pub AreAt : (ℕ → ℕ) → (from to : ℕ) → List Message → Type 0
AreAt f from to [] = from ≤ to
AreAt f from to (m ∷ rest) = (index : ℕ) × (from ≤ index) × (index < to) × (m.number ≡ f index) × AreAt f (index + 1) to rest

module _ (f : ℕ → ℕ) (count : ℕ) (distinct : (i j : ℕ) → i < j → j < count → f i ≢ f j) where
  pub at_growing : (from to : ℕ) (started : List Message) → AreAt f from to started → from ≤ to
  at_growing from to [] h = h
  at_growing from to (m ∷ rest) h = omega (arith, h.1, h.2)

  pub at_index : (from to : ℕ) (started : List Message) (a : Message) → AreAt f from to started → IsIn a started → (k : ℕ) × (from ≤ k) × (k < to) × (a.number ≡ f k)
  at_index from to [] a h i = absurd i
  at_index from to (m ∷ rest) a h i = elim i [
    | inl e ↦ (h.0, h.1, h.2, ap (λ (x : Message). x.number) (sym e) ∙ h.3)
    | inr t ↦ (let k = at_index (h.0 + 1) to rest a h.4 t in (k.0, omega (arith, h.1, k.1), k.2, k.3))
  ]

  -- Two indexes with one transaction ID are equal.
  pub same_index : (i j m n : ℕ) → i < j → j < count → m ≡ f i → n ≡ f j → m ≡ n → ⊥
  same_index i j m n lt le p q e = distinct i j lt le (sym p ∙ (e ∙ q))

  pub at_unique : (from to : ℕ) (started : List Message) (a b : Message) → to ≤ count → AreAt f from to started → IsIn a started → IsIn b started → a.number ≡ b.number → a ≡ b
  at_unique from to [] a b le h i j e = absurd i
  at_unique from to (m ∷ rest) a b le h i j e = elim i [
    | inl p ↦ elim j [
      | inl q ↦ sym p ∙ q
      | inr q ↦ (let k = at_index (h.0 + 1) to rest b h.4 q in absurd (same_index h.0 k.0 a.number b.number (omega (arith, k.1)) (omega (arith, k.2, le)) (ap (λ (x : Message). x.number) (sym p) ∙ h.3) k.3 e))
    ]
    | inr p ↦ elim j [
      | inl q ↦ (let k = at_index (h.0 + 1) to rest a h.4 p in absurd (same_index h.0 k.0 b.number a.number (omega (arith, k.1)) (omega (arith, k.2, le)) (ap (λ (x : Message). x.number) (sym q) ∙ h.3) k.3 (sym e)))
      | inr q ↦ at_unique (h.0 + 1) to rest a b le h.4 p q e
    ]
  ]

module _ {V : Wire} {C : Type 0} (K : ClientWords V C) (c : C) where
  -- If the first transaction IDs are different, none is taken, and each request has the one at its index.
  pub no_number_taken : (count transmitted : ℕ) →
      ((i j : ℕ) → i < j → j < count → V.number (K.seed c) i ≢ V.number (K.seed c) j) →
      ((n : ℕ) → K.IsTaken c n → (k : ℕ) × (k < transmitted) × (n ≡ V.number (K.seed c) k)) →
      (from to : ℕ) (others started : List Message) → transmitted ≤ from → to ≤ count →
      ((m : Message) → IsIn m others → (k : ℕ) × (k < from) × (m.number ≡ V.number (K.seed c) k)) →
      AreNumbered K c others from to started → AreAt (V.number (K.seed c)) from to started
  no_number_taken count transmitted distinct taken from to others [] le fits known h = h
  no_number_taken count transmitted distinct taken from to others (m ∷ rest) le fits known h =
      let index = h.0 in
      let f : ℕ → ℕ = V.number (K.seed c) in
      let is : m.number ≡ f index = elim h.3 [
        | inl e ↦ e
        | inr t ↦ elim t [
          | inl k ↦ (let b = taken (f index) k in absurd (distinct b.0 index (omega (arith, b.1, le, h.1)) (omega (arith, h.2, fits)) (sym b.2)))
          | inr o ↦ (let b = known o.0 o.1 in absurd (distinct b.0 index (omega (arith, b.1, h.1)) (omega (arith, h.2, fits)) (sym b.2 ∙ o.2)))
        ]
      ] in (
        index,
        h.1,
        h.2,
        is,
        no_number_taken count transmitted distinct taken (index + 1) to (m ∷ others) rest (omega (arith, le, h.1)) fits
            (λ x i. elim i [
              | inl e ↦ (index, omega arith, ap (λ (y : Message). y.number) (sym e) ∙ is)
              | inr t ↦ (let b = known x t in (b.0, omega (arith, b.1, h.1), b.2))
            ]) h.4,
      )

  pub numbered_growing : (from to : ℕ) (others started : List Message) → AreNumbered K c others from to started → from ≤ to
  numbered_growing from to others [] h = h
  numbered_growing from to others (m ∷ rest) h = omega (arith, h.1, h.2)
