-- A client that receives nothing, from call to call.
use Rattle.std.proofs.Common.{◌≡◌, ◌<◌, ◌≤◌, ◌+◌, ℕ, suc, arith, List, [], ◌∷◌, ◌++◌, map, append_assoc, Option, Some, None, refl, sym, ap, ◌∙◌, subst, inl, inr}
use Rattle.std.specs.Prelude.{Contains, option_to_list}
use Rattle.std.specs.List.{AllByRecursion}
use Rattle.turn_client_proto_api.specs.StunTypesWire.Grammar.{number_at}
use Rattle.turn_client_proto_api.specs.declared.answer.TurnPollRet.{TurnPollRet}
use Rattle.turn_client_proto_api.specs.declared.answer.TurnPollRet.TheVariants as answer
use Rattle.turn_client_proto_api.specs.declared.event.TurnEvent.{TurnEvent}
use Rattle.turn_client_proto_api.specs.declared.event.TurnEvent.TheVariants.{AllocationCreateFailed}
use Rattle.turn_client_proto_core.specs.Ending.{HasFailed}
use Rattle.turn_client_proto_core.specs.declared.protocol.Phase.TheVariants.{Ended}
use Rattle.turn_client_proto_core.specs.declared.protocol.Protocol.{Protocol}
use Rattle.turn_client_proto_timers.specs.Drawing.{HasToSend, IsTransmitted}
use Rattle.turn_client_proto_api.specs.Sent.{Sent}
use Rattle.turn_client_proto_timers.specs.Polling.{IsPolled}
use Rattle.turn_client_proto_handshake_laws.specs.Driving.{Call, Draws, DrawFails, Polls, Takes, Looks, IsDriven, IsEventTaken, client_end, transmitted_at, polled_at}
use Rattle.turn_client_proto_handshake_laws.specs.Promises.{HasStarted, HasSent, HasReported, IsAnswered}
use Rattle.turn_client_proto_handshake_laws.specs.Sent.{Beginning, Begins, Sending, end_of, first_number, first_request, first_sent, sendings, sent_at, slots_of, slots_until, reported}
use Rattle.turn_client_proto_handshake_laws.specs.declared.driving.Stage.{Stage}
use Rattle.turn_client_proto_handshake_laws.specs.declared.driving.Stage.TheVariants.{Drawing, Polling, Over, Failed, Astray}
use Rattle.turn_client_proto_handshake_laws.proofs.UnansweredFirst.{first_transmitted}
use Rattle.turn_client_proto_handshake_laws.proofs.Slots.{contains_slot, first_taken, first_until, order, slots_from}
use Rattle.turn_client_proto_handshake_laws.proofs.Waiting.{IsQuiet, IsWaiting, awaits, count_of, ends_later, gives_up, nothing_sent, nothing_to_send, sent_again, slot_of, slots_begin, slots_grow, some_sent}

-- ---- events

-- If no event is queued, none is taken, and nothing changes.
none_taken : (p q : Protocol) (event : Option TurnEvent) → p.events ≡ [] → IsEventTaken p event q → (event ≡ None) × (q ≡ p)
none_taken p q None empty is = (refl, is.others ∙ ap (λ (l : List TurnEvent). record p { events = l }) (sym is.first))
none_taken p q (Some event) empty is = absurd (Prim.cc (sym empty ∙ is.first))

-- If two lists together are empty, both are.
both_empty : {A : Type 0} (xs ys : List A) → xs ++ ys ≡ [] → (xs ≡ []) × (ys ≡ [])
both_empty [] ys none = (refl, none)
both_empty (x ∷ xs) ys some = absurd (Prim.cc some)

-- ---- a client of which nothing more is requested

-- At this stage the driver calls neither `poll_transmit` nor `poll`.
record IsIdle (stage : Stage) : Type 0 where
  not_drawing : (now : ℕ) → stage ≡ Drawing now → ⊥
  not_polling : (now : ℕ) → stage ≡ Polling now → ⊥

over_idle : (now : ℕ) → IsIdle (Over now)
over_idle now = record { not_drawing = λ at same. absurd (Prim.cc same); not_polling = λ at same. absurd (Prim.cc same) }

failed_idle : (now : ℕ) → IsIdle (Failed now)
failed_idle now = record { not_drawing = λ at same. absurd (Prim.cc same); not_polling = λ at same. absurd (Prim.cc same) }

module _ (b : Beginning) where
  -- Events are taken, and nothing else happens.
  record Rests (stage : Stage) (p : Protocol) (calls : List Call) (last : Stage) (new : Protocol) : Type 0 where
    stays : last ≡ stage
    silent : sendings calls ≡ []
    answers : AllByRecursion (IsAnswered b) calls
    phase : new.phase ≡ p.phase
    events : reported calls ++ new.events ≡ p.events

  rests : (stage : Stage) → IsIdle stage → (calls : List Call) (p : Protocol) (last : Stage) (new : Protocol) → IsDriven stage p calls last new → Rests stage p calls last new
  unfolding IsDriven
  rests stage idle [] p last new driven = record {
    stays = driven.0;
    silent = refl;
    answers = tt;
    phase = ap (λ (x : Protocol). x.phase) driven.1;
    events = ap (λ (x : Protocol). x.events) driven.1;
  }
  rests stage idle (Draws now sent ∷ calls) p last new driven = absurd (idle.not_drawing now driven.1.0)
  rests stage idle (DrawFails now ∷ calls) p last new driven = absurd (idle.not_drawing now driven.1.0)
  rests stage idle (Polls now ret ∷ calls) p last new driven = absurd (idle.not_polling now driven.1.0)
  rests stage idle (Takes event ∷ calls) p last new driven =
      let rest = rests stage idle calls driven.0 last new driven.3 in
      record {
        stays = rest.stays;
        silent = rest.silent;
        answers = (tt, rest.answers);
        phase = rest.phase ∙ ap (λ (x : Protocol). x.phase) driven.2.others;
        events = append_assoc (option_to_list event) (reported calls) new.events
            ∙ (ap (λ (l : List TurnEvent). option_to_list event ++ l) rest.events ∙ sym driven.2.first);
      }
  rests stage idle (Looks ∷ calls) p last new driven =
      let rest = rests stage idle calls driven.0 last new driven.3 in
      record {
        stays = rest.stays;
        silent = rest.silent;
        answers = (tt, rest.answers);
        phase = rest.phase ∙ ap (λ (x : Protocol). x.phase) driven.2;
        events = rest.events ∙ ap (λ (x : Protocol). x.events) driven.2;
      }

  -- ---- a client that awaits the response

  -- The first `many` slots have come.
  abbrev IsReached : (many now : ℕ) → Type 0
  IsReached many now = (k : ℕ) → k < many → slot_of b k ≤ now

  -- What holds at a stage after `used` transmissions.
  abbrev Occurs : (used : ℕ) → Stage → Protocol → Type 0
  Occurs used (Drawing now) p = IsWaiting b used p × (now ≤ end_of b) × (used < count_of b → now ≤ slot_of b used) × IsReached used now
  Occurs used (Polling now) p = IsWaiting b used p × (now ≤ end_of b) × IsQuiet b used now × IsReached used now
  Occurs used (Over now) p = ⊥
  Occurs used (Failed now) p = ⊥
  Occurs used Astray p = ⊥

  waits_at : (used : ℕ) (stage : Stage) (p : Protocol) → Occurs used stage p → IsWaiting b used p
  waits_at used (Drawing now) p s = s.0
  waits_at used (Polling now) p s = s.0
  waits_at used (Over now) p s = absurd s
  waits_at used (Failed now) p s = absurd s
  waits_at used Astray p s = absurd s

  -- Exactly the first `many` slots have come.
  abbrev IsTimely : (many : ℕ) → Stage → Type 0
  IsTimely many (Drawing now) = Unit {0}
  IsTimely many (Polling now) = IsQuiet b many now × IsReached many now
  IsTimely many (Over now) = IsQuiet b many now × IsReached many now
  IsTimely many (Failed now) = Unit {0}
  IsTimely many Astray = ⊥

  -- What the calls do, if `used` transmissions were made before.
  record Comes (used : ℕ) (calls : List Call) (last : Stage) (new : Protocol) : Type 0 where
    more : ℕ
    few : used + more ≤ count_of b
    sent : sendings calls ≡ sent_at b (slots_from (slot_of b) used more)
    answers : AllByRecursion (IsAnswered b) calls
    timely : IsTimely (used + more) last
    silent : HasReported b calls last new

  nothing_yet : (used : ℕ) (stage last : Stage) (p new : Protocol) → used ≤ count_of b → Occurs used stage p → last ≡ stage → new ≡ p → Comes used [] last new
  nothing_yet used stage last p new few s same is = subst (λ (l : Stage). Comes used [] l new) (sym same) (subst (λ (x : Protocol). Comes used [] stage x) (sym is) (by stage s))
    where
      by : (at : Stage) → Occurs used at p → Comes used [] at p
      by (Drawing now) w = record { more = 0; few = omega (arith, few); sent = refl; answers = tt; timely = tt; silent = (refl, w.0.events) }
      by (Polling now) w = record {
        more = 0;
        few = omega (arith, few);
        sent = refl;
        answers = tt;
        timely = subst (λ (n : ℕ). IsTimely n (Polling now)) (let same : used ≡ used + 0 = omega arith in same) (w.2, w.3);
        silent = (refl, w.0.events);
      }
      by (Over now) w = absurd w
      by (Failed now) w = absurd w
      by Astray w = absurd w

  -- A call that transmits nothing, takes no event and has a right result.
  unsent : (used : ℕ) (now time : ℕ) (calls : List Call) (last : Stage) (new : Protocol) → now < time → time ≤ end_of b → Comes used calls last new → Comes used (Polls now (answer.WaitUntil time) ∷ calls) last new
  unsent used now time calls last new later soon rest = record {
    more = rest.more;
    few = rest.few;
    sent = rest.sent;
    answers = ((later, soon), rest.answers);
    timely = rest.timely;
    silent = rest.silent;
  }

  none_transmitted : (used now : ℕ) (calls : List Call) (last : Stage) (new : Protocol) → Comes used calls last new → Comes used (Draws now None ∷ calls) last new
  none_transmitted used now calls last new rest = record {
    more = rest.more;
    few = rest.few;
    sent = rest.sent;
    answers = (tt, rest.answers);
    timely = rest.timely;
    silent = rest.silent;
  }

  none_decoded : (used : ℕ) (calls : List Call) (last : Stage) (new : Protocol) → Comes used calls last new → Comes used (Takes None ∷ calls) last new
  none_decoded used calls last new rest = record {
    more = rest.more;
    few = rest.few;
    sent = rest.sent;
    answers = (tt, rest.answers);
    timely = rest.timely;
    silent = rest.silent;
  }

  looked : (used : ℕ) (calls : List Call) (last : Stage) (new : Protocol) → Comes used calls last new → Comes used (Looks ∷ calls) last new
  looked used calls last new rest = record {
    more = rest.more;
    few = rest.few;
    sent = rest.sent;
    answers = (tt, rest.answers);
    timely = rest.timely;
    silent = rest.silent;
  }

  -- A call of `poll_transmit` that transmits the first request at its slot.
  one_sent : (used now : ℕ) (calls : List Call) (last : Stage) (new : Protocol) → now ≡ slot_of b used → Comes (used + 1) calls last new → Comes used (Draws now (Some (first_sent b)) ∷ calls) last new
  one_sent used now calls last new at rest =
      let few = rest.few in
      record {
        more = suc rest.more;
        few = omega (arith, few);
        sent = ap (λ (n : ℕ). record { now = n; sent = first_sent b } ∷ sendings calls) at
            ∙ ap (λ (l : List Sending). record { now = slot_of b used; sent = first_sent b } ∷ l) rest.sent;
        answers = (tt, rest.answers);
        timely = subst (λ (n : ℕ). IsTimely n last) (let same : (used + 1) + rest.more ≡ used + suc rest.more = omega arith in same) rest.timely;
        silent = rest.silent;
      }

  -- A call by which the client fails.
  fails_by : (used now : ℕ) (call : Call) (calls : List Call) (p between : Protocol) (last : Stage) (new : Protocol) → used ≤ count_of b → p.events ≡ [] → HasFailed p between
      → ((rest : List Call) → sendings (call ∷ rest) ≡ sendings rest) → ((rest : List Call) → reported (call ∷ rest) ≡ reported rest) → IsAnswered b call → IsDriven (Failed now) between calls last new → Comes used (call ∷ calls) last new
  fails_by used now call calls p between last new few empty failed unsends untells right driven =
      let r = rests (Failed now) (failed_idle now) calls between last new driven in
      let none = both_empty (reported calls) new.events (r.events ∙ (failed.events ∙ empty)) in
      subst (λ (l : Stage). Comes used (call ∷ calls) l new) (sym r.stays) (record {
        more = 0;
        few = omega (arith, few);
        sent = unsends calls ∙ r.silent;
        answers = (right, r.answers);
        timely = tt;
        silent = (untells calls ∙ none.0, none.1);
      })

  -- A call of `poll_transmit` by which the client fails is one at a slot.
  fails_at : (used now : ℕ) (p : Protocol) → Occurs used (Drawing now) p → HasToSend p now → Contains (slots_of b) now
  fails_at used now p s to_send = elim (order used (count_of b)) [
    | inl left ↦ elim (order now (slot_of b used)) [
      | inl soon ↦ nothing_to_send b used p s.0 now (λ l. soon) to_send
      | inr due ↦ (
          let most = s.2 left in
          let same : 0 + used ≡ used = omega arith in
          let exact : now ≡ slot_of b used = omega (arith, due, most) in
          contains_slot (slot_of b) 0 (count_of b) used now left (exact ∙ ap (slot_of b) (sym same)))
    ]
    | inr gone ↦ nothing_to_send b used p s.0 now (λ l. absurd (omega (arith, l, gone))) to_send
  ]

  -- A call of `poll` by which the client is closed.
  closes_by : (used now : ℕ) (calls : List Call) (between : Protocol) (last : Stage) (new : Protocol) → used ≤ count_of b → now ≡ end_of b → IsQuiet b used now → IsReached used now
      → between.phase ≡ Ended → between.events ≡ map AllocationCreateFailed b.config.families → IsDriven (Over now) between calls last new → Comes used (Polls now answer.Closed ∷ calls) last new
  closes_by used now calls between last new few at quiet reached phase events driven =
      let r = rests (Over now) (over_idle now) calls between last new driven in
      subst (λ (l : Stage). Comes used (Polls now answer.Closed ∷ calls) l new) (sym r.stays) (record {
        more = 0;
        few = omega (arith, few);
        sent = r.silent;
        answers = (at, r.answers);
        timely = subst (λ (n : ℕ). IsTimely n (Over now)) (let same : used ≡ used + 0 = omega arith in same) (quiet, reached);
        silent = (at, r.phase ∙ phase, r.events ∙ events);
      })

  -- ---- what comes of the calls after one

  module _ (calls : List Call) (last : Stage) (new : Protocol) (rest : (used : ℕ) (stage : Stage) (p : Protocol) → used ≤ count_of b → Occurs used stage p → IsDriven stage p calls last new → Comes used calls last new) where
    -- A call of `poll_transmit` when no transmission is due.
    draws_none : (now : ℕ) (sent : Option Sent) (used : ℕ) (p between : Protocol) → used ≤ count_of b → Occurs used (Drawing now) p → IsQuiet b used now → IsTransmitted p now sent between → IsDriven (transmitted_at now sent) between calls last new
        → Comes used (Draws now sent ∷ calls) last new
    draws_none now sent used p between few s quiet generated driven =
        let d = nothing_sent b used p s.0 now sent between quiet generated in
        let waits = subst (λ (x : Protocol). IsWaiting b used x) (sym d.1) s.0 in
        subst (λ (o : Option Sent). Comes used (Draws now o ∷ calls) last new) (sym d.0)
        (none_transmitted used now calls last new
        (rest used (Polling now) between few (waits, s.1, quiet, s.3) (subst (λ (o : Option Sent). IsDriven (transmitted_at now o) between calls last new) d.0 driven)))

    -- A call of `poll_transmit` when a transmission is due.
    draws_one : (now : ℕ) (sent : Option Sent) (used : ℕ) (p between : Protocol) → Occurs used (Drawing now) p → used < count_of b → slot_of b used ≤ now → IsTransmitted p now sent between → IsDriven (transmitted_at now sent) between calls last new
        → Comes used (Draws now sent ∷ calls) last new
    draws_one now sent used p between s left due generated driven =
        let d = sent_again b used p s.0 now sent between left due generated in
        let most = s.2 left in
        let exact : now ≡ slot_of b used = omega (arith, due, most) in
        let grows = slots_grow b used (used + 1) (omega arith) in
        subst (λ (o : Option Sent). Comes used (Draws now o ∷ calls) last new) (sym d.0)
        (one_sent used now calls last new exact
        (rest (used + 1) (Drawing now) between (omega (arith, left))
        (d.1, s.1, λ more. omega (arith, grows, exact), one_reached used now exact s.3)
        (subst (λ (o : Option Sent). IsDriven (transmitted_at now o) between calls last new) d.0 driven)))
      where
        one_reached : (used now : ℕ) → now ≡ slot_of b used → IsReached used now → IsReached (used + 1) now
        one_reached used now exact reached k below = elim (order k used) [
          | inl less ↦ reached k less
          | inr more ↦ (
              let same : k ≡ used = omega (arith, more, below) in
              let slot : slot_of b k ≡ slot_of b used = ap (slot_of b) same in
              omega (arith, slot, exact))
        ]

    draws : (now : ℕ) (sent : Option Sent) (used : ℕ) (p between : Protocol) → used ≤ count_of b → Occurs used (Drawing now) p → IsTransmitted p now sent between → IsDriven (transmitted_at now sent) between calls last new
        → Comes used (Draws now sent ∷ calls) last new
    draws now sent used p between few s generated driven = elim (order used (count_of b)) [
      | inl left ↦ elim (order now (slot_of b used)) [
        | inl soon ↦ draws_none now sent used p between few s (λ l. soon) generated driven
        | inr due ↦ draws_one now sent used p between s left due generated driven
      ]
      | inr gone ↦ draws_none now sent used p between few s (λ l. absurd (omega (arith, l, gone))) generated driven
    ]

    -- A call of `poll`.
    polls : (now : ℕ) (ret : TurnPollRet) (used : ℕ) (p between : Protocol) → used ≤ count_of b → now ≤ client_end → Occurs used (Polling now) p → IsPolled p now ret between → IsDriven (polled_at now ret) between calls last new
        → Comes used (Polls now ret ∷ calls) last new
    polls now ret used p between few early s polled driven = elim (order now (end_of b)) [
      | inl before ↦ (
          let d = awaits b used p s.0 now ret between early s.2 before polled in
          let later = d.later in
          subst (λ (r : TurnPollRet). Comes used (Polls now r ∷ calls) last new) (sym d.ret_is)
          (unsent used now d.time calls last new d.later d.by_end
          (rest used (Drawing d.time) between few
          (d.waits, d.by_end, d.by_slot, λ k below. (let r = s.3 k below in omega (arith, r, later)))
          (subst (λ (r : TurnPollRet). IsDriven (polled_at now r) between calls last new) d.ret_is driven))))
      | inr after ↦ (
          let most = s.1 in
          let at : now ≡ end_of b = omega (arith, after, most) in
          elim (gives_up b used p s.0 now ret between after polled) [
            | inl d ↦ subst (λ (r : TurnPollRet). Comes used (Polls now r ∷ calls) last new) (sym d.closed)
                (closes_by used now calls between last new few at s.2 s.3 d.phase d.events
                (subst (λ (r : TurnPollRet). IsDriven (polled_at now r) between calls last new) d.closed driven))
            | inr d ↦ subst (λ (r : TurnPollRet). Comes used (Polls now r ∷ calls) last new) (sym d.0)
                (fails_by used now (Polls now answer.NoMemory) calls p between last new few s.0.events d.1 (λ l. refl) (λ l. refl) at
                (subst (λ (r : TurnPollRet). IsDriven (polled_at now r) between calls last new) d.0 driven))
          ])
    ]

  -- Any calls, from a stage on at which the client awaits the response.
  goes : (calls : List Call) (used : ℕ) (stage last : Stage) (p new : Protocol) → used ≤ count_of b → Occurs used stage p → IsDriven stage p calls last new → Comes used calls last new
  unfolding IsDriven
  goes [] used stage last p new few s driven = nothing_yet used stage last p new few s driven.0 driven.1
  goes (Draws now sent ∷ calls) used stage last p new few s driven =
      draws calls last new (λ u at x f h d. goes calls u at last x new f h d) now sent used p driven.0 few (subst (λ (x : Stage). Occurs used x p) driven.1.0 s) driven.2 driven.3
  goes (DrawFails now ∷ calls) used stage last p new few s driven =
      fails_by used now (DrawFails now) calls p driven.0 last new few (waits_at used stage p s).events driven.2.0 (λ l. refl) (λ l. refl)
      (fails_at used now p (subst (λ (x : Stage). Occurs used x p) driven.1.0 s) driven.2.1) driven.3
  goes (Polls now ret ∷ calls) used stage last p new few s driven =
      polls calls last new (λ u at x f h d. goes calls u at last x new f h d) now ret used p driven.0 few driven.1.1 (subst (λ (x : Stage). Occurs used x p) driven.1.0 s) driven.2 driven.3
  goes (Takes event ∷ calls) used stage last p new few s driven =
      let none = none_taken p driven.0 event (waits_at used stage p s).events driven.2 in
      subst (λ (o : Option TurnEvent). Comes used (Takes o ∷ calls) last new) (sym none.0)
      (none_decoded used calls last new (goes calls used stage last driven.0 new few (subst (λ (x : Protocol). Occurs used stage x) (sym none.1) s) driven.3))
  goes (Looks ∷ calls) used stage last p new few s driven =
      looked used calls last new (goes calls used stage last driven.0 new few (subst (λ (x : Protocol). Occurs used stage x) (sym driven.2) s) driven.3)

  -- ---- from the beginning on

  module _ (visible : number_at (first_request b) ≡ first_number b) where
    begins : (calls : List Call) (last : Stage) (p new : Protocol) → Begins b p → IsDriven (Drawing b.made) p calls last new → Comes 0 calls last new
    unfolding IsDriven
    begins [] last p new is driven = subst (λ (l : Stage). Comes 0 [] l new) (sym driven.0) (record {
      more = 0;
      few = omega arith;
      sent = refl;
      answers = tt;
      timely = tt;
      silent = (refl, ap (λ (x : Protocol). x.events) driven.1 ∙ is.events);
    })
    begins (Draws now sent ∷ calls) last p new is driven =
        let at : b.made ≡ now = Prim.cc driven.1.0 in
        let early : b.made ≤ client_end = subst (λ (n : ℕ). n ≤ client_end) (sym at) driven.1.1 in
        let d = first_transmitted b p is visible sent driven.0 (subst (λ (n : ℕ). IsTransmitted p n sent driven.0) (sym at) driven.2) in
        let first = slots_begin b early in
        let grows = slots_grow b 0 1 (omega arith) in
        let ends = ends_later b early in
        let next = subst (λ (n : ℕ). IsDriven (transmitted_at n sent) driven.0 calls last new) (sym at) driven.3 in
        subst (λ (n : ℕ). Comes 0 (Draws n sent ∷ calls) last new) at
        (subst (λ (o : Option Sent). Comes 0 (Draws b.made o ∷ calls) last new) (sym d.sent_is)
        (one_sent 0 b.made calls last new (sym first)
        (goes calls 1 (Drawing b.made) last driven.0 new (some_sent b)
        (d.waits, ends, λ more. omega (arith, first, grows), λ k below. one_slot k below first)
        (subst (λ (o : Option Sent). IsDriven (transmitted_at b.made o) driven.0 calls last new) d.sent_is next))))
      where
        one_slot : (k : ℕ) → k < 1 → slot_of b 0 ≡ b.made → slot_of b k ≤ b.made
        one_slot k below first =
            let same : k ≡ 0 = omega (arith, below) in
            let slot : slot_of b k ≡ slot_of b 0 = ap (slot_of b) same in
            omega (arith, slot, first)
    begins (DrawFails now ∷ calls) last p new is driven =
        let at : b.made ≡ now = Prim.cc driven.1.0 in
        let early : b.made ≤ client_end = subst (λ (n : ℕ). n ≤ client_end) (sym at) driven.1.1 in
        let first = slots_begin b early in
        let same : 0 + 0 ≡ 0 = omega arith in
        let right = contains_slot (slot_of b) 0 (count_of b) 0 now (some_sent b) (sym at ∙ (sym first ∙ ap (slot_of b) (sym same))) in
        fails_by 0 now (DrawFails now) calls p driven.0 last new (omega arith) is.events driven.2.0 (λ l. refl) (λ l. refl) right driven.3
    begins (Polls now ret ∷ calls) last p new is driven = absurd (Prim.cc driven.1.0)
    begins (Takes event ∷ calls) last p new is driven =
        let none = none_taken p driven.0 event is.events driven.2 in
        subst (λ (o : Option TurnEvent). Comes 0 (Takes o ∷ calls) last new) (sym none.0)
        (none_decoded 0 calls last new (begins calls last driven.0 new (subst (λ (x : Protocol). Begins b x) (sym none.1) is) driven.3))
    begins (Looks ∷ calls) last p new is driven =
        looked 0 calls last new (begins calls last driven.0 new (subst (λ (x : Protocol). Begins b x) (sym driven.2) is) driven.3)

  -- ---- in the words of the promises

  -- Exactly the first `many` slots have come.
  slots_come : (many now : ℕ) → many ≤ count_of b → IsQuiet b many now → IsReached many now → slots_until b now ≡ slots_from (slot_of b) 0 many
  slots_come many now few quiet reached =
      first_until (slot_of b) now 0 many (count_of b) few
      (λ k from below. reached k (omega (arith, below)))
      (λ k from below. (let soon = quiet (omega (arith, from, below)) in let grows = slots_grow b many k (omega (arith, from)) in omega (arith, soon, grows)))

  has_started : (calls : List Call) (many : ℕ) → many ≤ count_of b → sendings calls ≡ sent_at b (slots_from (slot_of b) 0 many) → HasStarted b calls
  has_started calls many few sent = record { many = many; sent = sent ∙ ap (sent_at b) (sym (first_taken (slot_of b) 0 many (count_of b) few)) }

  stored : (calls : List Call) (many : ℕ) (last : Stage) → many ≤ count_of b → sendings calls ≡ sent_at b (slots_from (slot_of b) 0 many) → IsTimely many last → HasSent b calls last
  stored calls many (Drawing now) few sent timely = has_started calls many few sent
  stored calls many (Polling now) few sent timely = sent ∙ ap (sent_at b) (sym (slots_come many now few timely.0 timely.1))
  stored calls many (Over now) few sent timely = sent ∙ ap (sent_at b) (sym (slots_come many now few timely.0 timely.1))
  stored calls many (Failed now) few sent timely = has_started calls many few sent
  stored calls many Astray few sent timely = timely

  module _ (visible : number_at (first_request b) ≡ first_number b) (old new : Protocol) (calls : List Call) (last : Stage) (is : Begins b old) (driven : IsDriven (Drawing b.made) old calls last new) where
    pub is_sent : HasSent b calls last
    is_sent =
        let c = begins visible calls last old new is driven in
        let few = c.few in
        stored calls c.more last (omega (arith, few)) c.sent (subst (λ (n : ℕ). IsTimely n last) (let same : 0 + c.more ≡ c.more = omega arith in same) c.timely)

    pub is_answered : AllByRecursion (IsAnswered b) calls
    is_answered = (begins visible calls last old new is driven).answers

    pub is_reported : HasReported b calls last new
    is_reported = (begins visible calls last old new is driven).silent
