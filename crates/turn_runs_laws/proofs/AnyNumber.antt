-- A response of an earlier run validates under the key that counts, and no step of this run signed it: it has
-- no transaction ID of this run.
use Rattle.std.proofs.Common.{◌≡◌, ℕ, suc, ◌+◌, ◌%◌, ◌≤◌, List, [], ◌∷◌, Some, None, refl, ap, sym, ◌∙◌, ◌⊎◌, inl, inr, arith}
use Rattle.turn_runs.specs.StunTypesWire.declared.algorithm.IntegrityAlgorithm.TheVariants.{Sha1}
use Rattle.turn_runs.specs.Members.{IsIn}
use Rattle.turn_runs.specs.Messages.{Message}
use Rattle.turn_runs.specs.Names.{Request, Success}
use Rattle.turn_runs.specs.Runs.{Step, AtClient, AtDesk, AtEach, AtSome, IsForClient, IsLawful, IsSigned, IsUnforged, Leads, NamesRealm, NoForgery}
use Rattle.turn_runs.specs.Steps.{Call}
use Rattle.turn_runs_laws.specs.AnyNumber.{NoForgeryForAnyNumber}
use Rattle.turn_runs_laws.specs.Handshakes.{Addresses}
use Rattle.turn_runs_laws.specs.Rounds.{asks_next, fresh, idle, replayed}
use Rattle.turn_runs_laws.specs.SmallWords.{Client, abroad, earlier_response, home, listed_small, small}
use Rattle.turn_runs_laws.proofs.Handshakes.{response_class}
use Rattle.turn_runs_laws.proofs.Rounds.{asks_step, authentic_on, by_desk, desk_step, distinct, earlier_step, first_is_new, home_key, lawful, leads, named_in, names_none, takes_step}
use Rattle.turn_runs_laws.proofs.Unsigned.{first_of, signed_nowhere}

module _ (a : Addresses) where
  -- ---- nobody signed it in this run

  abbrev IsSignedHere : ℕ → Step Client ℕ → Type 0
  IsSignedHere n s = IsSigned (small a) home Sha1 (3 ∷ n ∷ []) s

  no_draw : (n : ℕ) (call : Call Client) → call.transmitted ≡ None → IsSignedHere n (AtClient call) → ⊥
  no_draw n call none signed = elim signed [
    | inl c ↦ (let no : None ≡ Some c.0 = sym none ∙ c.1 in let never : ⊥ = cc in never)
    | inr d ↦ d
  ]

  no_request : (n m : ℕ) → IsSignedHere n (AtClient (asks_next m)) → ⊥
  no_request n m signed = elim signed [
    | inl c ↦ (
        let said : Some (0 ∷ m ∷ []) ≡ Some c.0 = c.1 in
        let drew : 0 ∷ m ∷ [] ≡ c.0 = cc in
        let no : 3 ≡ 0 = ap first_of c.2.0 ∙ sym (ap first_of drew) in
        omega (arith, no))
    | inr d ↦ d
  ]

  no_desk : (n m : ℕ) → IsSignedHere n (AtDesk m) → ⊥
  no_desk n m signed = elim signed [
    | inl c ↦ c
    | inr d ↦ (
        let said : Some (1 ∷ m ∷ []) ≡ Some d.0 = d.1 in
        let replied : 1 ∷ m ∷ [] ≡ d.0 = cc in
        let no : 3 ≡ 1 = ap first_of d.2 ∙ sym (ap first_of replied) in
        omega (arith, no))
  ]

  pub any_number_fails : (n count : ℕ) → NoForgeryForAnyNumber (small a) fresh count (replayed a n) → ⊥
  any_number_fails n count all =
      elim (all.1.1.0 (3 ∷ n ∷ []) home (3 ∷ n ∷ []) Sha1 (inl refl) (home, inr (inr (inl refl)), refl) (refl, refl, refl)) [
        | inl s ↦ no_request n n s
        | inr before ↦ signed_nowhere a (λ s. IsSignedHere n s) (no_draw n) (no_request n) (no_desk n) n before
      ]

  -- ---- it has no number of this run's

  other_number : (n count : ℕ) (bytes : List ℕ) (m : Message) → IsIn bytes ((3 ∷ n ∷ []) ∷ []) → listed_small a bytes ≡ Some m →
      IsForClient (small a) fresh count m → ⊥
  other_number n count bytes m i shows for_it = elim i [
    | inl e ↦ (
        let both : Some (earlier_response a n) ≡ Some m = ap (listed_small a) e ∙ shows in
        let same : earlier_response a n ≡ m = cc in
        elim for_it [
          | inl has ↦ (let no : 16 + n % 16 ≡ has.0 % 16 = ap (λ (x : Message). x.number) same ∙ has.2 in omega (arith, no))
          | inr attempt ↦ (
              let no : Success ≡ Request = sym (response_class a n) ∙ (ap (λ (x : Message). x.class) same ∙ attempt.0) in
              let never : ⊥ = cc in never)
        ])
    | inr none ↦ none
  ]

  named_replayed : (n : ℕ) (r : List ℕ) → AtSome (λ s _. NamesRealm (small a) r s) (replayed a n) → (r ≡ home) ⊎ (r ≡ abroad)
  named_replayed n r some = elim some [
    | inl here ↦ absurd (names_none (1 ∷ n ∷ []) here.0 r refl here.1 here.2)
    | inr more1 ↦ elim more1 [
      | inl desk ↦ inl (sym desk)
      | inr more2 ↦ elim more2 [
        | inl here ↦ absurd (names_none (3 ∷ n ∷ []) here.0 r refl here.1 here.2)
        | inr more3 ↦ elim more3 [
          | inl here ↦ absurd here.1
          | inr before ↦ named_in a n r before
        ]
      ]
    ]
  ]

  pub authentic_replayed : (n count : ℕ) → NoForgery (small a) fresh count (replayed a n)
  authentic_replayed n count =
      let keys = home_key a (replayed a n) (named_replayed n) in (
        (λ bytes key text b m i own v shows for_it. inl (by_desk a n b bytes key text (keys b key own) i v)),
        (
          (λ key text b m own v shows has. inr (inl (inl (0 ∷ n ∷ [], refl, v)))),
          (
            (λ bytes key text b m i own v shows for_it. absurd (other_number n count bytes m i shows for_it)),
            ((λ bytes key text b m i. absurd i), authentic_on a count (replayed a n) keys n),
          ),
        ),
      )

  leads_replayed : (n : ℕ) → Leads fresh (replayed a n) (idle (suc n))
  leads_replayed n = (refl, (refl, (refl, leads a n)))

  lawful_replayed : (n : ℕ) → AtEach (λ s _. IsLawful (small a) s) (replayed a n)
  lawful_replayed n = (takes_step a n, (desk_step a n, (earlier_step a n, (asks_step a n, lawful a n))))

  pub unforged_replayed : (n : ℕ) → n ≤ 15 → IsUnforged (small a) fresh (replayed a n) (idle (suc n))
  unforged_replayed n le = record {
    new = first_is_new a;
    leads = leads_replayed n;
    lawful = lawful_replayed n;
    authentic = authentic_replayed n (suc n);
    distinct = distinct a (suc n) (omega (arith, le));
  }
