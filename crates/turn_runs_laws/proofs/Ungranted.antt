-- There is no account of a run in which the client holds, reports or lists what no server core granted.
use Rattle.std.proofs.Common.{◌≡◌, ℕ, ◌≤◌, List, [], ◌∷◌, map, Some, refl, ap, sym, ◌∙◌, subst, inl, inr, arith}
use Rattle.turn_runs.specs.StunTypesWire.declared.algorithm.IntegrityAlgorithm.TheVariants.{Sha1}
use Rattle.turn_types.specs.StunTypesBase.declared.transport.TransportType.TheVariants.{Tcp}
use Rattle.turn_runs.specs.Headline.{AnswersOnce, IsGrantedAt, IsSafe, ShowsTraced, Unless}
use Rattle.turn_runs.specs.Members.{IsIn, NoneTwice}
use Rattle.turn_runs.specs.Messages.{Allocation, AllocationCreated, Gain, Holds, Notice}
use Rattle.turn_runs.specs.Names.{IntegrityAlgorithm}
use Rattle.turn_runs.specs.Runs.{Step, AtClient, AtDesk, AtEach, AtSome, IsCounted, IsKeyOf, Leads, NoForgery}
use Rattle.turn_runs.specs.Steps.{Call, Reported, reported_for}
use Rattle.turn_runs_laws.proofs.Tools.{in_left, none_parts}
use Rattle.turn_runs_laws.specs.Handshakes.{Addresses, grant_at}
use Rattle.turn_runs_laws.specs.Rounds.{asks_next, idle, quiet, takes_next}
use Rattle.turn_runs_laws.specs.SmallWords.{Client, Core, Idle, Waiting, algorithm_by, given_by, home, key_small, small}
use Rattle.turn_runs_laws.specs.Ungranted.{AreSafe, forget, forget_call, holds_ungranted, shows_ungranted, reports_twice}
use Rattle.turn_runs_laws.proofs.Rounds.{distinct, names_none}

-- How far a call moves the generator follows from what the client stores.
pub given_in_call : (own : Call Client) (call : Call Core) → forget_call own ≡ call →
    given_by own.before.core own.after.core ≡ given_by call.before call.after
given_in_call own call e = ap (λ (x : Call Core). given_by x.before x.after) e

-- The first notice is about a reported thing.
decoded_first : (here : List Reported) (notice : Notice) (others : List Notice) → map (λ (t : Reported). t.notice) here ≡ notice ∷ others →
    (t : Reported) × IsIn t here × (t.notice ≡ notice)
decoded_first [] notice others e = absurd (let never : ⊥ = cc in never)
decoded_first (t ∷ here) notice others e = (t, inl refl, cc)

-- One notice for one transaction ID is reported in one way.
decoded_alike : (t u : Reported) (notice : Notice) (number : ℕ) → t.notice ≡ notice → u.notice ≡ notice → t.number ≡ number → u.number ≡ number →
    reported_for u ≡ reported_for t
decoded_alike t u notice number n m i j = ap (λ (x : Notice). (x, u.number)) (m ∙ sym n) ∙ ap (λ (k : ℕ). (t.notice, k)) (j ∙ sym i)

module _ (a : Addresses) where
  -- ---- the client holds what no desk granted

  held_by : (run : List (Step Client ℕ)) (last : Client) → map forget run ≡ holds_ungranted a → Leads (idle 0) run last →
      IsCounted (small a) (idle 0) run last → Unless (small a) (idle 0) run last (AtEach (IsSafe (small a) (idle 0) last run) run) → ⊥
  held_by (AtClient takes ∷ AtClient asks ∷ []) last reported leads counted safe =
      let takes_is : forget_call takes ≡ quiet (Waiting 0) (Idle 1) = cc in
      let asks_is : forget_call asks ≡ record (quiet (Idle 0) (Waiting 0)) { transmitted = Some (0 ∷ 0 ∷ []) } = cc in
      let few : last.transmitted ≤ 16 = omega (arith, counted, given_in_call takes _ takes_is, given_in_call asks _ asks_is) in
      let authentic : NoForgery (small a) (idle 0) last.transmitted (AtClient takes ∷ AtClient asks ∷ []) = (
        (λ bytes key text b m i own v shows for_it. absurd (subst (IsIn bytes) (ap (λ (x : Call Core). x.came) takes_is) i)),
        ((λ bytes key text b m i own v shows for_it. absurd (subst (IsIn bytes) (ap (λ (x : Call Core). x.came) asks_is) i)), tt),
      ) in
      let holds : (small a).client.IsHeld takes.after (Allocation Tcp a.relayed) =
      subst (λ (x : Core). (small a).client.IsHeld (record { core = x; transmitted = 0 }) (Allocation Tcp a.relayed)) (sym (ap (λ (x : Call Core). x.after) takes_is)) (inl refl) in
      elim ((safe authentic (distinct a last.transmitted few)).0.holds (Allocation Tcp a.relayed) holds).1.0 [
        | inl none ↦ none
        | inr more1 ↦ elim more1 [
          | inl none ↦ none
          | inr none ↦ none
        ]
      ]
  held_by run last reported leads counted safe = let never : ⊥ = cc in never

  pub none_held : AreSafe a (idle 0) (holds_ungranted a) → ⊥
  none_held is = held_by is.run is.last is.reported is.leads is.counted is.safe

  -- ---- a getter lists what no desk granted

  listed_by : (run : List (Step Client ℕ)) (last : Client) → map forget run ≡ shows_ungranted a → Leads (idle 0) run last →
      IsCounted (small a) (idle 0) run last → Unless (small a) (idle 0) run last (AtEach (ShowsTraced (small a)) run) → ⊥
  listed_by (AtClient gets ∷ []) last reported leads counted visible =
      let gets_is : forget_call gets ≡ record (quiet (Idle 0) (Idle 0)) { visible = Allocation Tcp a.relayed ∷ [] } = cc in
      let few : last.transmitted ≤ 16 = omega (arith, counted, given_in_call gets _ gets_is) in
      let authentic : NoForgery (small a) (idle 0) last.transmitted (AtClient gets ∷ []) =
      ((λ bytes key text b m i own v shows for_it. absurd (subst (IsIn bytes) (ap (λ (x : Call Core). x.came) gets_is) i)), tt) in
      let listed : IsIn (Allocation Tcp a.relayed) gets.visible =
      subst (IsIn (Allocation Tcp a.relayed)) (sym (ap (λ (x : Call Core). x.visible) gets_is)) (inl refl) in
      elim ((visible authentic (distinct a last.transmitted few)).0 (Allocation Tcp a.relayed) listed).1.0 [
        | inl none ↦ none
        | inr none ↦ none
      ]
  listed_by run last reported leads counted visible = let never : ⊥ = cc in never

  pub none_visible : AreSafe a (idle 0) (shows_ungranted a) → ⊥
  none_visible is = listed_by is.run is.last is.reported is.leads is.counted is.visible

  -- ---- the client reports twice what was granted once

  -- The one grant has the first transaction ID.
  first_number : (d : ℕ) (asks : Call Client) (number : ℕ) (gain : Gain) → d ≡ 0 →
      AtSome (IsGrantedAt (small a) number gain) (AtDesk d ∷ AtClient asks ∷ []) → number ≡ 0
  first_number d asks number gain e some = elim some [
    | inl g ↦ sym g.number_is ∙ (ap (λ grant. grant.number) g.grants.granted ∙ ap (λ n. (grant_at a n).number) e)
    | inr more2 ↦ elim more2 [
      | inl none ↦ absurd none
      | inr none ↦ absurd none
    ]
  ]

  -- Only the server core's realm is remembered or named in it.
  round_home : (d : ℕ) (again takes asks : Call Client) → again.came ≡ [] → takes.came ≡ (1 ∷ 0 ∷ []) ∷ [] → asks.came ≡ [] →
      (b : IntegrityAlgorithm) (key : List ℕ) → IsKeyOf (small a) (idle 0) (AtClient again ∷ AtClient takes ∷ AtDesk d ∷ AtClient asks ∷ []) b key → b ≡ Sha1 → key ≡ home
  round_home d again takes asks none_again one none_requested b key of sha1 = elim of.1 [
    | inl stored ↦ (let is : Some home ≡ Some of.0 = stored in let same : home ≡ of.0 = cc in of.2 ∙ (ap (key_small of.0) sha1 ∙ sym same))
    | inr some ↦ elim some [
      | inl here ↦ absurd (subst (IsIn here.0) none_again here.1)
      | inr more3 ↦ elim more3 [
        | inl here ↦ absurd (names_none (1 ∷ 0 ∷ []) here.0 of.0 refl (subst (IsIn here.0) one here.1) here.2)
        | inr more4 ↦ elim more4 [
          | inl desk ↦ of.2 ∙ (ap (key_small of.0) sha1 ∙ sym desk)
          | inr more5 ↦ elim more5 [
            | inl here ↦ absurd (subst (IsIn here.0) none_requested here.1)
            | inr none ↦ absurd none
          ]
        ]
      ]
    ]
  ]

  -- Nothing is forged in the honest round and the call that reports its address once more.
  round_authentic : (count d : ℕ) (again takes asks : Call Client) → d ≡ 0 → again.came ≡ [] → takes.came ≡ (1 ∷ 0 ∷ []) ∷ [] → asks.came ≡ [] →
      asks.transmitted ≡ Some (0 ∷ 0 ∷ []) → NoForgery (small a) (idle 0) count (AtClient again ∷ AtClient takes ∷ AtDesk d ∷ AtClient asks ∷ [])
  round_authentic count d again takes asks is none_again one none_requested transmitted = (
    (λ bytes key text b m i own v shows for_it. absurd (subst (IsIn bytes) none_again i)),
    (
      (λ bytes key text b m i own v shows for_it. elim (subst (IsIn bytes) one i) [
        | inl e ↦ (
            let sha1 : b ≡ Sha1 = v.1 ∙ sym (ap algorithm_by e) in
            inl (inr (1 ∷ d ∷ [], refl, v.0 ∙ (sym e ∙ ap (λ n. 1 ∷ n ∷ []) (sym is)), (sha1, round_home d again takes asks none_again one none_requested b key own sha1))))
        | inr none ↦ absurd none
      ]),
      (
        (λ key text b m own v shows has. inl (inl (0 ∷ d ∷ [], transmitted ∙ ap (λ n. Some (0 ∷ n ∷ [])) (sym is), v))),
        ((λ bytes key text b m i own v shows for_it. absurd (subst (IsIn bytes) none_requested i)), tt),
      ),
    ),
  )

  -- They don't report each thing once.
  not_once : (d : ℕ) (again takes asks : Call Client) → d ≡ 0 → again.answered ≡ AllocationCreated Tcp a.relayed ∷ [] →
      takes.answered ≡ AllocationCreated Tcp a.relayed ∷ [] → AnswersOnce (small a) (AtClient again ∷ AtClient takes ∷ AtDesk d ∷ AtClient asks ∷ []) → ⊥
  not_once d again takes asks d_is again_is takes_is answers =
      let second = answers.1 in
      let first = second.5 in
      let one = decoded_first second.0 (AllocationCreated Tcp a.relayed) [] (second.3 ∙ again_is) in
      let other = decoded_first first.0 (AllocationCreated Tcp a.relayed) [] (first.3 ∙ takes_is) in
      let one_number : one.0.number ≡ 0 = elim (second.4 one.0 one.1).1.0 [
        | inl none ↦ absurd none
        | inr some ↦ first_number d asks one.0.number (Holds one.0.held) d_is some
      ] in
      let other_number : other.0.number ≡ 0 = first_number d asks other.0.number (Holds other.0.held) d_is (first.4 other.0 other.1).1.0 in
      let others : IsIn other.0 second.1 = subst (IsIn other.0) (sym first.2) (in_left other.0 first.0 first.1 other.1) in
      let apart = none_parts reported_for second.0 second.1 (subst (NoneTwice reported_for) second.2 answers.2) in
      apart.2 one.0 other.0 one.1 others (decoded_alike one.0 other.0 (AllocationCreated Tcp a.relayed) 0 one.2 other.2 one_number other_number)

  decoded_by : (run : List (Step Client ℕ)) (last : Client) → map forget run ≡ reports_twice a → Leads (idle 0) run last →
      IsCounted (small a) (idle 0) run last → Unless (small a) (idle 0) run last (AnswersOnce (small a) run) → ⊥
  decoded_by (AtClient again ∷ AtClient takes ∷ AtDesk d ∷ AtClient asks ∷ []) last reported leads counted once =
      let again_is : forget_call again ≡ record (quiet (Idle 1) (Idle 1)) { answered = AllocationCreated Tcp a.relayed ∷ [] } = cc in
      let takes_is : forget_call takes ≡ forget_call (takes_next a 0) = cc in
      let d_is : d ≡ 0 = cc in
      let asks_is : forget_call asks ≡ forget_call (asks_next 0) = cc in
      let few : last.transmitted ≤ 16 = omega (arith, counted, given_in_call again _ again_is, given_in_call takes _ takes_is, given_in_call asks _ asks_is) in
      let authentic = round_authentic last.transmitted d again takes asks d_is (ap (λ (x : Call Core). x.came) again_is) (ap (λ (x : Call Core). x.came) takes_is)
      (ap (λ (x : Call Core). x.came) asks_is) (ap (λ (x : Call Core). x.transmitted) asks_is) in
      not_once d again takes asks d_is (ap (λ (x : Call Core). x.answered) again_is) (ap (λ (x : Call Core). x.answered) takes_is)
      (once authentic (distinct a last.transmitted few))
  decoded_by run last reported leads counted once = let never : ⊥ = cc in never

  pub none_decoded : AreSafe a (idle 0) (reports_twice a) → ⊥
  none_decoded is = decoded_by is.run is.last is.reported is.leads is.counted is.once
