-- There is no account of a run in which the client uses a realm that nobody named, handles what never
-- arrived, or accepts what validates under another key than its own. The last is no step of a client.
use Rattle.std.proofs.Common.{◌≡◌, ◌≢◌, ℕ, ◌<◌, ◌≤◌, List, [], ◌∷◌, map, Some, None, refl, ap, sym, ◌∙◌, subst, inl, inr, arith}
use Rattle.turn_runs.specs.StunTypesWire.declared.algorithm.IntegrityAlgorithm.TheVariants.{Sha1, Sha256}
use Rattle.turn_types.specs.StunTypesBase.declared.transport.TransportType.TheVariants.{Tcp}
use Rattle.turn_runs.specs.Headline.{IsSafe, Unless}
use Rattle.turn_runs.specs.Members.{IsIn}
use Rattle.turn_runs.specs.Messages.{Allocation}
use Rattle.turn_runs.specs.Names.{IntegrityAlgorithm}
use Rattle.turn_runs.specs.Runs.{Step, AtClient, AtEach, IsCounted, IsKeyOf, NoForgery}
use Rattle.turn_runs.specs.Steps.{Call, ClientStep}
use Rattle.turn_runs_laws.specs.Handshakes.{Addresses, response_at}
use Rattle.turn_runs_laws.specs.OtherKeys.{answer_by_sha256, answer_under, gains_under, keeps_unnamed, takes_answer, takes_under, takes_unsent}
use Rattle.turn_runs_laws.specs.Rounds.{asks_next, fresh, idle, quiet}
use Rattle.turn_runs_laws.specs.SmallWords.{Client, Core, Fresh, Idle, Waiting, algorithm_by, digest_in, digest_under, home, key_small, realm_in, small, small_client, reported_small}
use Rattle.turn_runs_laws.specs.Ungranted.{AreSafe, forget, forget_call}
use Rattle.turn_runs_laws.proofs.Rounds.{distinct, names_none}
use Rattle.turn_runs_laws.proofs.Ungranted.{given_in_call}

-- A response with the digest under a key validates under the server core's key only if both digests are
-- equal.
same_digest : (key own bytes : List ℕ) → IsIn bytes (answer_under key ∷ []) → own ≡ home → digest_in bytes ≡ Some (digest_under own) → digest_under key ≡ digest_under home
same_digest key own bytes i is_home right = elim i [
  | inl e ↦ (let same : Some (digest_under key) ≡ Some (digest_under own) = ap digest_in e ∙ right in let digests : digest_under key ≡ digest_under own = cc in digests ∙ ap digest_under is_home)
  | inr none ↦ absurd none
]

-- That response has its digest by SHA-1.
by_sha1 : (key bytes : List ℕ) (b : IntegrityAlgorithm) → IsIn bytes (answer_under key ∷ []) → b ≡ algorithm_by bytes → b ≡ Sha1
by_sha1 key bytes b i is = elim i [ inl e ↦ is ∙ sym (ap algorithm_by e) | inr none ↦ absurd none ]

-- The key for SHA-1 in a realm that is the server core's.
home_sha1 : (realm key : List ℕ) (b : IntegrityAlgorithm) → Some home ≡ Some realm → key ≡ key_small realm b → b ≡ Sha1 → key ≡ home
home_sha1 realm key b stored is sha1 = let same : home ≡ realm = cc in is ∙ (ap (key_small realm) sha1 ∙ sym same)

module _ (a : Addresses) where
  -- ---- it is no step

  pub no_step : (key : List ℕ) → digest_under key ≢ digest_under home → ClientStep (small_client a) (takes_under a key) → ⊥
  no_step key differs step = elim (step.gains (Allocation Tcp a.relayed) (inl refl)) [
    | inl before ↦ absurd before
    | inr t ↦ (
        let answered = step.answers t.0 t.1 in
        let arrives = answered.arrives in
        let sha1 = by_sha1 key answered.bytes arrives.algorithm arrives.handled arrives.valid.1 in
        let own = home_sha1 arrives.own.0 arrives.key arrives.algorithm arrives.own.1 arrives.own.3 sha1 in
        differs (same_digest key arrives.key answered.bytes arrives.handled own arrives.valid.2))
  ]

  -- Nor is the call a step if the response's algorithm isn't the chosen one.
  pub none_by_sha256 : ClientStep (small_client a) (takes_answer a answer_by_sha256) → ⊥
  none_by_sha256 step = elim (step.gains (Allocation Tcp a.relayed) (inl refl)) [
    | inl before ↦ absurd before
    | inr t ↦ (
        let arrives = (step.answers t.0 t.1).arrives in
        let chosen : Some Sha1 ≡ Some arrives.algorithm = arrives.own.2 in
        let sha1 : Sha1 ≡ arrives.algorithm = cc in
        elim arrives.handled [
          | inl e ↦ (let no : Sha1 ≡ Sha256 = sha1 ∙ (arrives.valid.1 ∙ sym (ap algorithm_by e)) in let never : ⊥ = cc in never)
          | inr none ↦ none
        ])
  ]

  -- ---- and the promise shuts it out

  -- If one message arrives, which names no realm, the client's key is that of the realm that it remembered.
  key_stored : (takes asks : Call Client) (came : List ℕ) → takes.came ≡ came ∷ [] → reported_small came ≡ None → asks.came ≡ [] → (b : IntegrityAlgorithm) (key : List ℕ) →
      IsKeyOf (small a) (idle 0) (AtClient takes ∷ AtClient asks ∷ []) b key → b ≡ Sha1 → key ≡ home
  key_stored takes asks came one names none_requested b key of sha1 = elim of.1 [
    | inl stored ↦ home_sha1 of.0 key b stored of.2 sha1
    | inr some ↦ elim some [
      | inl here ↦ absurd (names_none came here.0 of.0 names (subst (IsIn here.0) one here.1) here.2)
      | inr more2 ↦ elim more2 [
        | inl here ↦ absurd (subst (IsIn here.0) none_requested here.1)
        | inr none ↦ absurd none
      ]
    ]
  ]

  gained_by : (key : List ℕ) → digest_under key ≢ digest_under home → (run : List (Step Client ℕ)) (last : Client) → map forget run ≡ gains_under a key →
      IsCounted (small a) (idle 0) run last → Unless (small a) (idle 0) run last (AtEach (IsSafe (small a) (idle 0) last run) run) → ⊥
  gained_by key differs (AtClient takes ∷ AtClient asks ∷ []) last reported counted safe =
      let takes_is : forget_call takes ≡ forget_call (takes_under a key) = cc in
      let asks_is : forget_call asks ≡ forget_call (asks_next 0) = cc in
      let few : last.transmitted ≤ 16 = omega (arith, counted, given_in_call takes _ takes_is, given_in_call asks _ asks_is) in
      let one : takes.came ≡ answer_under key ∷ [] = ap (λ (x : Call Core). x.came) takes_is in
      let none_requested : asks.came ≡ [] = ap (λ (x : Call Core). x.came) asks_is in
      let authentic : NoForgery (small a) (idle 0) last.transmitted (AtClient takes ∷ AtClient asks ∷ []) = (
        (λ bytes own text b m i of v shows for_it.
            let came = subst (IsIn bytes) one i in
            absurd (differs (same_digest key own bytes came (key_stored takes asks (answer_under key) one refl none_requested b own of (by_sha1 key bytes b came v.1)) v.2))),
        ((λ bytes own text b m i of v shows for_it. absurd (subst (IsIn bytes) none_requested i)), tt),
      ) in
      let holds : (small a).client.IsHeld takes.after (Allocation Tcp a.relayed) =
      subst (λ (x : Core). (small a).client.IsHeld (record { core = x; transmitted = 0 }) (Allocation Tcp a.relayed)) (sym (ap (λ (x : Call Core). x.after) takes_is)) (inl refl) in
      elim ((safe authentic (distinct a last.transmitted few)).0.holds (Allocation Tcp a.relayed) holds).1.0 [
        | inl none ↦ none
        | inr more1 ↦ elim more1 [
          | inl none ↦ none
          | inr none ↦ none
        ]
      ]
  gained_by key differs run last reported counted safe = let never : ⊥ = cc in never

  pub none_gained : (key : List ℕ) → digest_under key ≢ digest_under home → AreSafe a (idle 0) (gains_under a key) → ⊥
  none_gained key differs is = gained_by key differs is.run is.last is.reported is.counted is.safe

  -- ---- a response that never came

  unsent_by : (run : List (Step Client ℕ)) (last : Client) → map forget run ≡ takes_unsent →
      IsCounted (small a) (idle 0) run last → Unless (small a) (idle 0) run last (AtEach (IsSafe (small a) (idle 0) last run) run) → ⊥
  unsent_by (AtClient takes ∷ AtClient asks ∷ []) last reported counted safe =
      let takes_is : forget_call takes ≡ record (quiet (Waiting 0) (Waiting 0)) { handled = (1 ∷ 0 ∷ []) ∷ [] } = cc in
      let asks_is : forget_call asks ≡ record (quiet (Idle 0) (Waiting 0)) { transmitted = Some (0 ∷ 0 ∷ []) } = cc in
      let one : last.transmitted ≡ 1 = omega (arith, counted, given_in_call takes _ takes_is, given_in_call asks _ asks_is) in
      let few : last.transmitted ≤ 16 = omega (arith, one) in
      let transmitted : 0 < last.transmitted = omega (arith, one) in
      let authentic : NoForgery (small a) (idle 0) last.transmitted (AtClient takes ∷ AtClient asks ∷ []) = (
        (λ bytes key text b m i own v shows for_it. absurd (subst (IsIn bytes) (ap (λ (x : Call Core). x.came) takes_is) i)),
        ((λ bytes key text b m i own v shows for_it. absurd (subst (IsIn bytes) (ap (λ (x : Call Core). x.came) asks_is) i)), tt),
      ) in
      let listed : IsIn (1 ∷ 0 ∷ []) takes.handled = subst (IsIn (1 ∷ 0 ∷ [])) (sym (ap (λ (x : Call Core). x.handled) takes_is)) (inl refl) in
      elim ((safe authentic (distinct a last.transmitted few)).0.desks (1 ∷ 0 ∷ []) home (1 ∷ 0 ∷ []) Sha1 (response_at a 0) listed (home, inl refl, refl) (refl, refl, refl) refl (inl refl) (0, transmitted, refl)) [
        | inl none ↦ none
        | inr none ↦ none
      ]
  unsent_by run last reported counted safe = let never : ⊥ = cc in never

  pub none_unsent : AreSafe a (idle 0) takes_unsent → ⊥
  none_unsent is = unsent_by is.run is.last is.reported is.counted is.safe

  -- ---- a realm that nobody named

  unnamed_by : (run : List (Step Client ℕ)) (last : Client) → map forget run ≡ keeps_unnamed →
      IsCounted (small a) fresh run last → Unless (small a) fresh run last (AtEach (IsSafe (small a) fresh last run) run) → ⊥
  unnamed_by (AtClient continues ∷ AtClient keeps ∷ []) last reported counted safe =
      let continues_is : forget_call continues ≡ quiet (Idle 0) (Idle 0) = cc in
      let keeps_is : forget_call keeps ≡ quiet Fresh (Idle 0) = cc in
      let few : last.transmitted ≤ 16 = omega (arith, counted, given_in_call continues _ continues_is, given_in_call keeps _ keeps_is) in
      let none_on : continues.came ≡ [] = ap (λ (x : Call Core). x.came) continues_is in
      let none_before : keeps.came ≡ [] = ap (λ (x : Call Core). x.came) keeps_is in
      let authentic : NoForgery (small a) fresh last.transmitted (AtClient continues ∷ AtClient keeps ∷ []) = (
        (λ bytes key text b m i own v shows for_it. absurd (subst (IsIn bytes) none_on i)),
        ((λ bytes key text b m i own v shows for_it. absurd (subst (IsIn bytes) none_before i)), tt),
      ) in
      let stored : realm_in continues.before.core ≡ Some home = ap (λ (x : Call Core). realm_in x.before) continues_is in
      elim ((safe authentic (distinct a last.transmitted few)).0.realms home stored) [
        | inl first ↦ (let no : None ≡ Some home = first in let never : ⊥ = cc in never)
        | inr some ↦ elim some [
          | inl here ↦ subst (IsIn here.0) none_on here.1
          | inr more1 ↦ elim more1 [
            | inl here ↦ subst (IsIn here.0) none_before here.1
            | inr none ↦ none
          ]
        ]
      ]
  unnamed_by run last reported counted safe = let never : ⊥ = cc in never

  pub none_unnamed : AreSafe a fresh keeps_unnamed → ⊥
  none_unnamed is = unnamed_by is.run is.last is.reported is.counted is.safe
