-- A getter returns something after at most sixteen requests. If the run has an account, the server core had
-- granted exactly that by then. If it returns a channel that was granted, there is an account.
use Rattle.std.proofs.Common.{◌≡◌, ℕ, zero, suc, ◌<◌, ◌≤◌, List, [], ◌∷◌, map, Some, refl, ap, sym, ◌∙◌, subst, inl, inr, arith}
use Rattle.turn_runs.specs.Headline.{IsGrantedAt, IsPromised, ShowsTraced, Traced, TracedBy, Unless}
use Rattle.turn_runs.specs.Members.{IsIn}
use Rattle.turn_runs.specs.Messages.{Held, Channel, Gain, Grant, GrantIs, Holds}
use Rattle.turn_runs.specs.Names.{SocketAddr, IntegrityAlgorithm}
use Rattle.turn_runs.specs.Runs.{Step, AtClient, AtDesk, AtEach, AtSome, IsAuthentic, IsCounted, IsKeyOf, IsLawful, Leads, NamesRealm, NoForgery, WasSigned, given_in}
use Rattle.turn_runs.specs.Steps.{Call, Reported}
use Rattle.turn_runs_laws.proofs.Safe.{counted, promised}
use Rattle.turn_runs_laws.proofs.Tools.{in_right}
use Rattle.turn_runs_laws.specs.Handshakes.{Addresses, grant_at, held_after, request_at, reported_at}
use Rattle.turn_runs_laws.specs.Rounds.{fresh, idle, quiet, rounds}
use Rattle.turn_runs_laws.specs.SmallWords.{Client, Core, Idle, given_by, small}
use Rattle.turn_runs_laws.specs.Ungranted.{AreSafe, IsBound, forget, forget_call, shows_after, shows_channel}
use Rattle.turn_runs_laws.proofs.Rounds.{authentic, distinct, first_is_new, idle_step, lawful, leads, none_given, small_laws}

module _ (a : Addresses) where
  -- ---- what two runs have in common which differ only in how many transaction IDs they count

  given_alike : (run other : List (Step Client ℕ)) → map forget run ≡ map forget other → given_in (small a) run ≡ given_in (small a) other
  given_alike [] [] same = refl
  given_alike (AtClient c ∷ run) (AtClient d ∷ other) same =
      let call_is : forget_call c ≡ forget_call d = cc in
      let rest = given_alike run other (cc) in
      omega (arith, rest, ap (λ (x : Call Core). given_by x.before x.after) call_is)
  given_alike (AtDesk c ∷ run) (AtDesk d ∷ other) same = given_alike run other (cc)
  given_alike run other same = absurd (let never : ⊥ = cc in never)

  signed_alike : (key : List ℕ) (b : IntegrityAlgorithm) (text : List ℕ) (run other : List (Step Client ℕ)) → map forget run ≡ map forget other →
      WasSigned (small a) key b text other → WasSigned (small a) key b text run
  signed_alike key b text [] [] same signed = absurd signed
  signed_alike key b text (AtClient c ∷ run) (AtClient d ∷ other) same signed = elim signed [
    | inl here ↦ elim here [
      | inl drew ↦ (
          let call_is : forget_call c ≡ forget_call d = cc in
          inl (inl (drew.0, ap (λ (x : Call Core). x.transmitted) call_is ∙ drew.1, drew.2)))
      | inr none ↦ absurd none
    ]
    | inr before ↦ inr (signed_alike key b text run other (cc) before)
  ]
  signed_alike key b text (AtDesk c ∷ run) (AtDesk d ∷ other) same signed = elim signed [
    | inl here ↦ elim here [
      | inl none ↦ absurd none
      | inr replied ↦ (
          let is : d ≡ c = cc in
          inl (inr (replied.0, ap (λ (n : ℕ). Some (1 ∷ n ∷ [])) (sym is) ∙ replied.1, replied.2, replied.3)))
    ]
    | inr before ↦ inr (signed_alike key b text run other (cc) before)
  ]
  signed_alike key b text run other same signed = absurd (let never : ⊥ = cc in never)

  named_alike : (r : List ℕ) (run other : List (Step Client ℕ)) → map forget run ≡ map forget other →
      AtSome (λ s _. NamesRealm (small a) r s) run → AtSome (λ s _. NamesRealm (small a) r s) other
  named_alike r [] [] same named = absurd named
  named_alike r (AtClient c ∷ run) (AtClient d ∷ other) same named = elim named [
    | inl here ↦ (
        let call_is : forget_call c ≡ forget_call d = cc in
        inl (here.0, subst (IsIn here.0) (ap (λ (x : Call Core). x.came) call_is) here.1, here.2))
    | inr before ↦ inr (named_alike r run other (cc) before)
  ]
  named_alike r (AtDesk c ∷ run) (AtDesk d ∷ other) same named = elim named [
    | inl desk ↦ inl desk
    | inr before ↦ inr (named_alike r run other (cc) before)
  ]
  named_alike r run other same named = absurd (let never : ⊥ = cc in never)

  -- A call in which nothing arrives adds no key that counts.
  key_alike : (gets : Call Client) (earlier other : List (Step Client ℕ)) → gets.came ≡ [] → map forget earlier ≡ map forget other →
      (b : IntegrityAlgorithm) (key : List ℕ) → IsKeyOf (small a) fresh (AtClient gets ∷ earlier) b key → IsKeyOf (small a) fresh other b key
  key_alike gets earlier other none same b key of = elim of.1 [
    | inl stored ↦ (of.0, inl stored, of.2)
    | inr some ↦ elim some [
      | inl here ↦ absurd (subst (IsIn here.0) none here.1)
      | inr before ↦ (of.0, inr (named_alike of.0 earlier other same before), of.2)
    ]
  ]

  -- The same for two whole runs, if what counts in the one counts in the other.
  authentic_alike : (count : ℕ) (whole others : List (Step Client ℕ)) →
      ((b : IntegrityAlgorithm) (key : List ℕ) → IsKeyOf (small a) fresh whole b key → IsKeyOf (small a) fresh others b key) →
      (run other : List (Step Client ℕ)) → map forget run ≡ map forget other →
      AtEach (IsAuthentic (small a) fresh count others) other → AtEach (IsAuthentic (small a) fresh count whole) run
  authentic_alike count whole others keys [] [] same all = tt
  authentic_alike count whole others keys (AtClient c ∷ run) (AtClient d ∷ other) same all =
      let call_is : forget_call c ≡ forget_call d = cc in (
        (λ bytes key text b m i own v shows for_it.
            signed_alike key b text run other (cc) (all.0 bytes key text b m (subst (IsIn bytes) (ap (λ (x : Call Core). x.came) call_is) i) (keys b key own) v shows for_it)),
        authentic_alike count whole others keys run other (cc) all.1,
      )
  authentic_alike count whole others keys (AtDesk c ∷ run) (AtDesk d ∷ other) same all =
      let is : c ≡ d = cc in (
        (λ key text b m own v shows has.
            signed_alike key b text run other (cc) (all.0 key text b m (keys b key own)
            (v.0 ∙ ap (λ (n : ℕ). 0 ∷ n ∷ []) is, v.1, v.2) (ap (λ (n : ℕ). Some (request_at a n)) (sym is) ∙ shows) has)),
        authentic_alike count whole others keys run other (cc) all.1,
      )
  authentic_alike count whole others keys run other same all = absurd (let never : ⊥ = cc in never)

  -- ---- which steps of the desk grant a channel

  -- What was granted at some step is the grant of a request that came by then.
  granted_by : (number : ℕ) (gain : Gain) (run : List (Step Client ℕ)) → AtSome (IsGrantedAt (small a) number gain) run →
      (d : ℕ) × IsIn (AtDesk d) (map forget run) × GrantIs (grant_at a d) gain
  granted_by number gain [] some = absurd some
  granted_by number gain (AtClient call ∷ run) some = elim some [
    | inl none ↦ absurd none
    | inr before ↦ (let g = granted_by number gain run before in (g.0, inr g.1, g.2))
  ]
  granted_by number gain (AtDesk d ∷ run) some = elim some [
    | inl g ↦ (d, inl refl, subst (λ (x : Grant). GrantIs x gain) g.grants.granted g.grant_is)
    | inr before ↦ (let g = granted_by number gain run before in (g.0, inr g.1, g.2))
  ]

  granted_below : (n d : ℕ) → IsIn (AtDesk d) (map forget (rounds a n)) → d < n
  granted_below zero d i = elim i [
    | inl e ↦ absurd (let never : ⊥ = cc in never)
    | inr j ↦ elim j [
      | inl e ↦ absurd (let never : ⊥ = cc in never)
      | inr none ↦ absurd none
    ]
  ]
  granted_below (suc n) d i = elim i [
    | inl e ↦ absurd (let never : ⊥ = cc in never)
    | inr j ↦ elim j [
      | inl e ↦ absurd (let never : ⊥ = cc in never)
      | inr k ↦ elim k [
        | inl e ↦ absurd (let never : ⊥ = cc in never)
        | inr l ↦ elim l [
          | inl e ↦ absurd (let never : ⊥ = cc in never)
          | inr m ↦ elim m [
            | inl e ↦ (let is : n ≡ d = cc in omega (arith, is))
            | inr o ↦ elim o [
              | inl e ↦ absurd (let never : ⊥ = cc in never)
              | inr before ↦ (let less = granted_below n d before in omega (arith, less))
            ]
          ]
        ]
      ]
    ]
  ]

  listed_below : (n d : ℕ) (h : Held) → IsIn (AtDesk d) (shows_after a n h) → d < n
  listed_below n d h i = elim i [
    | inl e ↦ absurd (let never : ⊥ = cc in never)
    | inr before ↦ granted_below n d before
  ]

  pub granted_early : (n number : ℕ) (h : Held) (gain : Gain) (run : List (Step Client ℕ)) → map forget run ≡ shows_after a n h →
      TracedBy (small a) run number gain → (d : ℕ) × (d < n) × GrantIs (grant_at a d) gain
  granted_early n number h gain run reported traced =
      let g = granted_by number gain run traced in
      (g.0, listed_below n g.0 h (subst (IsIn (AtDesk g.0)) reported g.1), g.2)

  -- Exactly one grant is of a channel.
  the_channel : (d number : ℕ) (peer : SocketAddr) → GrantIs (grant_at a d) (Holds (Channel number peer)) →
      (d ≡ 2) × (number ≡ 0x4000) × (peer ≡ a.peer)
  the_channel zero number peer is = absurd (omega (arith, is.0))
  the_channel (suc zero) number peer is = absurd (omega (arith, is.0))
  the_channel (suc (suc zero)) number peer is = (refl, cc, cc)
  the_channel (suc (suc (suc zero))) number peer is = absurd (omega (arith, is.0))
  the_channel (suc (suc (suc (suc zero)))) number peer is = absurd (omega (arith, is.0))
  the_channel (suc (suc (suc (suc (suc d))))) number peer is = absurd (omega (arith, is.0))

  -- ---- an account shows that the result was granted

  pub traced_before : (n : ℕ) (h : Held) (run : List (Step Client ℕ)) (last : Client) → n ≤ 16 → map forget run ≡ shows_after a n h →
      IsCounted (small a) fresh run last → Unless (small a) fresh run last (AtEach (ShowsTraced (small a)) run) → Traced (small a) run h
  traced_before n h (AtClient gets ∷ earlier) last few reported counts visible =
      let gets_is : forget_call gets ≡ record (quiet (Idle n) (Idle n)) { visible = h ∷ [] } = cc in
      let before : map forget earlier ≡ map forget (rounds a n) = cc in
      let all_counted = counted (small a) fresh (rounds a n) (idle n) (leads a n) (lawful a n) in
      let transmitted : last.transmitted ≤ 16 =
      omega (arith, few, counts, all_counted, given_alike earlier (rounds a n) before, none_given n, ap (λ (x : Call Core). given_by x.before x.after) gets_is) in
      let unforged : NoForgery (small a) fresh last.transmitted (AtClient gets ∷ earlier) = (
        (λ bytes key text b m i own v shows for_it. absurd (subst (IsIn bytes) (ap (λ (x : Call Core). x.came) gets_is) i)),
        authentic_alike last.transmitted (AtClient gets ∷ earlier) (rounds a n) (key_alike gets earlier (rounds a n) (ap (λ (x : Call Core). x.came) gets_is) before)
            earlier (rounds a n) before (authentic a last.transmitted n),
      ) in
      let listed : IsIn h gets.visible = subst (IsIn h) (sym (ap (λ (x : Call Core). x.visible) gets_is)) (inl refl) in
      (visible unforged (distinct a last.transmitted transmitted)).0 h listed
  traced_before n h run last few reported counts visible = absurd {A = Traced (small a) run h} (cc)

  bound_by : (n number : ℕ) (peer : SocketAddr) (run : List (Step Client ℕ)) (last : Client) → n ≤ 16 → map forget run ≡ shows_channel a n number peer →
      IsCounted (small a) fresh run last → Unless (small a) fresh run last (AtEach (ShowsTraced (small a)) run) → IsBound a n number peer
  bound_by n number peer run last few reported counts visible =
      let traced = traced_before n (Channel number peer) run last few reported counts visible in
      let g = granted_early n traced.0 (Channel number peer) (Holds (Channel number peer)) run reported traced.1.0 in
      let third = the_channel g.0 number peer g.2 in
      record { granted = omega (arith, g.1, third.0); number_is = third.1; peer_is = third.2 }

  -- ---- where it was granted, there is an account

  held_from : (k : ℕ) → IsIn (Channel 0x4000 a.peer) (held_after a (suc (suc (suc k))))
  held_from zero = inr (inl refl)
  held_from (suc k) = in_right (Channel 0x4000 a.peer) (map (λ (t : Reported). t.held) (reported_at a (suc (suc (suc k))))) (held_after a (suc (suc (suc k)))) (held_from k)

  held_following : (n : ℕ) → 3 ≤ n → IsIn (Channel 0x4000 a.peer) (held_after a n)
  held_following zero le = absurd (omega (arith, le))
  held_following (suc zero) le = absurd (omega (arith, le))
  held_following (suc (suc zero)) le = absurd (omega (arith, le))
  held_following (suc (suc (suc k))) le = held_from k

  abbrev requested_after : ℕ → Held → Call Client
  requested_after n h = record (quiet (idle n) (idle n)) { visible = h ∷ [] }

  pub account : (n : ℕ) (h : Held) → IsIn h (held_after a n) → AreSafe a fresh (shows_after a n h)
  account n h holds =
      let run : List (Step Client ℕ) = AtClient (requested_after n h) ∷ rounds a n in
      let lead : Leads fresh run (idle n) = (refl, leads a n) in
      let held = λ (x : Held) (i : IsIn x (h ∷ [])). elim i as (λ (_ : IsIn x (h ∷ [])). IsIn x (held_after a n)) [
        | inl e ↦ subst (λ (y : Held). IsIn y (held_after a n)) e holds
        | inr none ↦ absurd none
      ] in
      let law : AtEach (λ s _. IsLawful (small a) s) run = (idle_step a n [] (h ∷ []) held, lawful a n) in
      let promise : IsPromised (small a) fresh run (idle n) = promised (small a) (small_laws a) fresh run (idle n) (first_is_new a) lead law in
      record {
        run = run;
        reported = refl;
        last = idle n;
        leads = lead;
        counted = counted (small a) fresh run (idle n) lead law;
        safe = promise.safe;
        once = promise.once;
        visible = promise.visible;
      }

  pub listed_where_bound : (n number : ℕ) (peer : SocketAddr) → n ≤ 16 →
      (AreSafe a fresh (shows_channel a n number peer) → IsBound a n number peer) × (IsBound a n number peer → AreSafe a fresh (shows_channel a n number peer))
  listed_where_bound n number peer few = (
    (λ is. bound_by n number peer is.run is.last few is.reported is.counted is.visible),
    (λ is. subst (λ (k : ℕ). AreSafe a fresh (shows_channel a n k peer)) (sym is.number_is)
        (subst (λ (p : SocketAddr). AreSafe a fresh (shows_channel a n 0x4000 p)) (sym is.peer_is) (account n (Channel 0x4000 a.peer) (held_following n is.granted)))),
  )
