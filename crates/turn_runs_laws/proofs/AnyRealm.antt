-- A response that nobody signed under the key of a realm that nobody named validates under that key.
use Rattle.std.proofs.Common.{◌≡◌, ℕ, zero, suc, ◌≤◌, List, [], ◌∷◌, Some, None, refl, ap, sym, ◌∙◌, ◌⊎◌, inl, inr, arith}
use Rattle.turn_runs.specs.StunTypesWire.declared.algorithm.IntegrityAlgorithm.TheVariants.{Sha1}
use Rattle.turn_runs.specs.Runs.{Step, AtClient, AtDesk, AtSome, IsSignedByClient}
use Rattle.turn_runs.specs.Steps.{Call}
use Rattle.turn_runs_laws.specs.AnyRealm.{IsSignedByDeskAnyhow, NoForgeryInAnyRealm}
use Rattle.turn_runs_laws.specs.Handshakes.{Addresses}
use Rattle.turn_runs_laws.specs.Rounds.{asks_next, fresh, rounds}
use Rattle.turn_runs_laws.specs.SmallWords.{Client, small}
use Rattle.turn_runs_laws.proofs.Unsigned.{first_of, signed_nowhere}

-- The key of the realm that nobody named. Digests under it equal those under the server core's key.
abbrev strange : List ℕ
strange = 16 ∷ []

module _ (a : Addresses) where
  -- The response to the request after `k` others was signed under that key at this step.
  abbrev IsSignedHere : ℕ → Step Client ℕ → Type 0
  IsSignedHere k s = IsSignedByClient (small a) strange Sha1 (1 ∷ k ∷ []) s ⊎ IsSignedByDeskAnyhow (small a) strange Sha1 (1 ∷ k ∷ []) s

  -- A call that transmits nothing did not sign it.
  no_draw : (k : ℕ) (call : Call Client) → call.transmitted ≡ None → IsSignedHere k (AtClient call) → ⊥
  no_draw k call none signed = elim signed [
    | inl c ↦ (let no : None ≡ Some c.0 = sym none ∙ c.1 in let never : ⊥ = cc in never)
    | inr d ↦ d
  ]

  -- What the client transmits is no response.
  no_request : (k m : ℕ) → IsSignedHere k (AtClient (asks_next m)) → ⊥
  no_request k m signed = elim signed [
    | inl c ↦ (
        let said : Some (0 ∷ m ∷ []) ≡ Some c.0 = c.1 in
        let drew : 0 ∷ m ∷ [] ≡ c.0 = cc in
        let no : 1 ≡ 0 = ap first_of c.2.0 ∙ sym (ap first_of drew) in
        omega (arith, no))
    | inr d ↦ d
  ]

  -- The server core has another key.
  no_desk : (k m : ℕ) → IsSignedHere k (AtDesk m) → ⊥
  no_desk k m signed = elim signed [
    | inl c ↦ c
    | inr d ↦ (let no : 16 ≡ 0 = ap first_of d.3.1.1 in omega (arith, no))
  ]

  never_signed : (m k : ℕ) → AtSome (λ s _. IsSignedHere k s) (rounds a m) → ⊥
  never_signed m k some = signed_nowhere a (λ s. IsSignedHere k s) (no_draw k) (no_request k) (no_desk k) m some

  pub wider_fails : (n count : ℕ) → 1 ≤ n → NoForgeryInAnyRealm (small a) fresh count (rounds a n) → ⊥
  wider_fails zero count le all = omega (arith, le)
  wider_fails (suc n) count le all =
      elim (all.1.1.1.0 (1 ∷ n ∷ []) strange (1 ∷ n ∷ []) Sha1 (inl refl) (strange, Sha1, refl) (refl, refl, refl)) [
        | inl s ↦ no_desk n n s
        | inr more7 ↦ elim more7 [
          | inl s ↦ no_request n n s
          | inr before ↦ never_signed n n before
        ]
      ]
