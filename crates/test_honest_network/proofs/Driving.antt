-- A client that is only polled after its allocation, and the turn to which each event leads.
use Rattle.std.proofs.Common.{◌≡◌, ◌≢◌, ◌++◌, ◌≤◌, ◌<◌, ◌&&◌, ◌||◌, ℕ, Bool, true, false, not, if◌then◌else◌, List, [], ◌∷◌, refl, sym, ap, ◌∙◌, subst, arith, lt-ltb, le-ltb}
use Rattle.std.specs.Prelude.{IfOk, Result, Ok, Err, nat_lt, max}
use Rattle.std.specs.declared.net.socket_addr.SocketAddr.{SocketAddr}
use Rattle.stun_types_wire.specs.Attributes.{kind_at}
use Rattle.stun_types_wire.specs.declared.class.MessageClass.TheVariants.{Success}
use Rattle.stun_types_wire.specs.Types.{class_of}
use Rattle.stun_types_base.specs.declared.data.Data.{Data}
use Rattle.stun_types_base.specs.declared.transmit.Transmit.{Transmit}
use Rattle.turn_client_proto_api.specs.Sent.{Sent, sent_of}
use Rattle.turn_desk_progress_laws.specs.TurnClientProtoHandshakeLaws.Driving.{client_end}
use Rattle.turn_desk_progress_laws.specs.Promises.{IsFresh}
use Rattle.turn_desk_progress_laws.specs.Scripts.{Done, IsScript, Progress, Plan, Start}
use Rattle.turn_desk_progress_laws.specs.Renewals.{HasRenewed}
use Rattle.turn_desk_progress_laws.specs.Turns.{Draws, Drives, Gives, Grants, IsDriven, Looks, Off, Polls, Refreshing, Renewing, Turn, Watch, Watching, transmitted_at, due, is_quiet, least, looked_at, polled_at, renewed, watching}
use Rattle.turn_desk_event.specs.declared.answer.Answer.{Answer}
use Rattle.turn_desk_event.specs.declared.answer.Answer.TheVariants as answer
use Rattle.turn_desk_core.specs.declared.decision.Decision.TheVariants as by
use Rattle.turn_desk_event.specs.declared.event.ClientCall.TheVariants as call
use Rattle.turn_desk_event.specs.declared.event.Event.{Event}
use Rattle.turn_desk_event.specs.declared.event.Event.TheVariants.{Call, Draw, ToClient, ToDesk}
use Rattle.turn_desk_world.specs.Model.{World}
use Rattle.turn_desk_world.specs.Runs.{IsRun}
use Rattle.test_honest_network.specs.Courses.{HasGoneBy, HasStored, IsAnew, IsCourse, IsDrivenTo, IsLed, IsRefreshed, IsRest, IsListed, IsWait}
use Rattle.test_driver.specs.Driving.{Happened}
use Rattle.test_honest_network.specs.Simulations.{HasSimulated}
use Rattle.test_honest_network.specs.Replies.{IsTaken}
use Rattle.test_honest_network.specs.declared.simulation.Outcome.TheVariants as outcome
use Rattle.test_honest_network.specs.declared.simulation.TheConstants.{LIFETIME, SECOND}
use Rattle.test_honest_network.specs.declared.renewing.Stored.{Stored}
use Rattle.test_honest_network.specs.declared.renewing.Stored.TheVariants.{Unmet, Unrenewed, Renewed}
use Rattle.test_honest_network.specs.declared.renewing.TheConstants.{AGAIN, DUE}
use Rattle.test_honest_network.proofs.Leading.{run_on, whole}

-- ---- where responses lead

looked : (s : Watch) (ret : Answer) → (t : Bool) × (looked_at call.PollEvent ret (Watching s) ≡ Watching (record s { reported = t }))
looked s answer.Nothing = (true, refl)
looked s _ = (s.reported, refl)

-- If the client waits until a later time, the turn is not `Off`.
later : (quiet is_later : Bool) (here : Turn) → is_later ≡ true → (if quiet && not is_later then Off else here) ≡ here
later true true here is = refl
later false true here is = refl
later quiet false here is = absurd (Prim.cc is)

not_empty : (reply : List ℕ) → class_of (kind_at reply) ≡ Success → reply ≢ []
not_empty reply is none = absurd (never (sym (ap (λ (bytes : List ℕ). class_of (kind_at bytes)) none) ∙ is))
  where
    never : class_of (kind_at []) ≡ Success → ⊥
    never is = Prim.cc is

-- ---- runs that lead from one turn to another

module _ (plan : Plan) where
  driven_on : (from middle to : Turn) (pairs others : List (Event × Answer)) → IsDriven plan from pairs middle → IsDriven plan middle others to → IsDriven plan from (pairs ++ others) to
  unfolding IsDriven
  driven_on from middle to [] others first second = subst (λ (t : Turn). IsDriven plan t others to) first second
  driven_on from middle to (pair ∷ pairs) others first second = (first.0, first.1, driven_on first.0 middle to pairs others first.2 second)

  pub nowhere : (w : World) (at : Turn) → IsLed plan w at w at
  unfolding IsDriven IsRun
  nowhere w at = record { pairs = []; run = refl; driven = refl }

  one_drive : (from to : Turn) (event : Event) (ret : Answer) → Drives plan from event ret to → IsDriven plan from ((event, ret) ∷ []) to
  unfolding IsDriven
  one_drive from to event ret drives = (to, drives, refl)

  one_more : (old middle new : World) (from at to : Turn) (event : Event) (ret : Answer) → IsLed plan old from middle at → Happened event middle ret new → Drives plan at event ret to → IsLed plan old from new to
  one_more old middle new from at to event ret led step drives = record {
    pairs = led.pairs ++ (event, ret) ∷ [];
    run = run_on plan old middle new led.pairs ((event, ret) ∷ []) led.run step;
    driven = driven_on from at to led.pairs ((event, ret) ∷ []) led.driven (one_drive at to event ret drives);
  }

  -- ---- a client that stores its address

  module _ (start : World) (at : Turn) (from lifetime : ℕ) where
    pub record Watched (w : World) (until : ℕ) : Type 0 where
      pub s : Watch
      pub from_is : s.from ≡ from
      pub lifetime_is : s.lifetime ≡ lifetime
      pub awaited : until ≤ s.until
      pub led : IsLed plan start at w (Watching s)

    takes : (w v : World) (now until : ℕ) → Watched w until → IsTaken now w v → Watched v until
    takes w v now until is taken = record {
      s = record is.s { reported = (looked is.s taken.ret).0 };
      from_is = is.from_is;
      lifetime_is = is.lifetime_is;
      awaited = is.awaited;
      led = one_more start w v at (Watching is.s) (Watching (record is.s { reported = (looked is.s taken.ret).0 })) (Call call.PollEvent now) taken.ret is.led taken.step
          (Looks call.PollEvent now tt refl (sym (looked is.s taken.ret).1));
    }

    draws_nothing : (w v : World) (now : ℕ) → now ≤ client_end → Watched w now → Happened (Draw now) w answer.Nothing v → Watched v now
    draws_nothing w v now in_range is step = record {
      s = record is.s { transmitted = is.s.transmitted || not (nat_lt now is.s.until) };
      from_is = is.from_is;
      lifetime_is = is.lifetime_is;
      awaited = is.awaited;
      led = one_more start w v at (Watching is.s) (transmitted_at is.s now answer.Nothing) (Draw now) answer.Nothing is.led step
          (Draws is.s now refl is.awaited in_range refl refl);
    }

    polled_on : (w v : World) (now until : ℕ) → now ≤ client_end → (is : Watched w now) → (waits : IsWait now until w v) → polled_at is.s now (answer.Wait waits.time) ≡ Watching (record is.s { until = max is.s.until waits.time; transmitted = false; reported = false }) → Watched v until
    polled_on w v now until in_range is waits so = record {
      s = record is.s { until = max is.s.until waits.time; transmitted = false; reported = false };
      from_is = is.from_is;
      lifetime_is = is.lifetime_is;
      awaited = at_most is.s.until waits.time until waits.late;
      led = one_more start w v at (Watching is.s) (Watching (record is.s { until = max is.s.until waits.time; transmitted = false; reported = false })) (Call call.Poll now) (answer.Wait waits.time) is.led waits.step
          (Polls is.s now refl is.awaited in_range refl (sym so));
    }
      where
        at_most : (a b c : ℕ) → c ≤ b → c ≤ max a b
        at_most a b c le = omega (arith, le)

    waits_on : (w v : World) (now until : ℕ) → now ≤ client_end → now < until → Watched w now → IsWait now until w v → Watched v until
    waits_on w v now until in_range early is waits =
        polled_on w v now until in_range is waits
        (later (is_quiet is.s now) (nat_lt now waits.time) (Watching (record is.s { until = max is.s.until waits.time; transmitted = false; reported = false })) (known now waits.time until early waits.late))
      where
        known : (a b c : ℕ) → a < c → c ≤ b → nat_lt a b ≡ true
        known a b c less le = lt-ltb a b (omega (arith, less, le))

    rests : (w v : World) (now until : ℕ) → now ≤ client_end → now < until → Watched w now → IsRest now until w v → Watched v until
    rests w v now until in_range early is rest =
        waits_on rest.transmitted v now until in_range early
        (draws_nothing rest.two rest.transmitted now in_range (takes rest.one rest.two now now (takes w rest.one now now is rest.first) rest.second) rest.nothing) rest.wait

    -- ---- its REFRESH

    sends : (w v : World) (now : ℕ) (sent : Transmit Data) → now ≤ client_end → now ≡ due from lifetime → Watched w now → Happened (Draw now) w (answer.Transmit sent) v → IsLed plan start at v (Refreshing (sent_of sent) from lifetime now)
    sends w v now sent in_range in_time is step =
        let led = one_more start w v at (Watching is.s) (transmitted_at is.s now (answer.Transmit sent)) (Draw now) (answer.Transmit sent) is.led step
        (Draws is.s now refl is.awaited in_range refl refl) in
        subst (λ (t : Turn). IsLed plan start at v t) (at_due is.s.from is.s.lifetime (Watching (record is.s { transmitted = false; early = is.s.early ++ sent_of sent ∷ [] })) is.from_is is.lifetime_is) led
      where
        not_less : (a : ℕ) → nat_lt a a ≡ false
        not_less a = le-ltb a a (omega arith)

        pick : (b : Bool) (x y : Turn) → b ≡ false → (if b then x else y) ≡ y
        pick false x y is = refl
        pick true x y is = absurd (Prim.cc is)

        at_due : (f l : ℕ) (here : Turn) → f ≡ from → l ≡ lifetime → (if nat_lt now (due f l) then here else Refreshing (sent_of sent) f l now) ≡ Refreshing (sent_of sent) from lifetime now
        at_due f l here f_is l_is =
            let same : due f l ≡ now = ap (λ (n : ℕ). due n l) f_is ∙ (ap (λ (n : ℕ). due from n) l_is ∙ sym in_time) in
            let no : nat_lt now (due f l) ≡ false = ap (λ (n : ℕ). nat_lt now n) same ∙ not_less now in
            pick (nat_lt now (due f l)) here (Refreshing (sent_of sent) f l now) no ∙ (ap (λ (n : ℕ). Refreshing (sent_of sent) n l now) f_is ∙ ap (λ (n : ℕ). Refreshing (sent_of sent) from n now) l_is)

    refreshes : (w v : World) (now : ℕ) → now ≤ client_end → now ≡ due from lifetime → least ≤ LIFETIME → Watched w now → IsRefreshed now w v → IsLed plan start at v (renewed LIFETIME now)
    refreshes w v now in_range in_time enough is r =
        let g = r.granted in
        let a = g.answered in
        let request = sent_of r.sent in
        let granted = one_more start r.transmitted a.replied at (Refreshing request from lifetime now) (Renewing request a.reply.items [] LIFETIME now)
        (ToDesk a.requested.bytes r.sent.from now (by.Refresh LIFETIME) a.requested.seed) (answer.Reply a.reply) (sends w r.transmitted now r.sent in_range in_time is r.step) a.requested.step
        (Grants request from lifetime now LIFETIME a.requested.bytes a.reply a.requested.seed refl a.requested.same enough refl refl g.success refl) in
        one_more start a.replied v at (Renewing request a.reply.items [] LIFETIME now) (renewed LIFETIME now) (ToClient a.reply r.sent.to r.sent.from now) a.ret granted a.given
        (Gives request a.reply.items [] [] LIFETIME now a.reply refl (whole plan a.reply.items (not_empty a.reply.items g.success) plan.client.transport) refl refl)

    -- ---- what it holds

    shows : (w v : World) (now until : ℕ) → Watched w until → IsListed now w v → Watched v until
    shows w v now until is visible = record {
      s = is.s;
      from_is = is.from_is;
      lifetime_is = is.lifetime_is;
      awaited = is.awaited;
      led = one_more start w v at (Watching is.s) (Watching is.s) (Call call.RelayedAddresses now) visible.0 is.led visible.1
          (Looks call.RelayedAddresses now tt refl refl);
    }

-- ---- all of it

module _ (plan : Plan) (second_is : plan.second ≡ SECOND) where
  anew : (s : Watch) → s.from ≡ DUE → s.lifetime ≡ LIFETIME → AGAIN ≤ s.until → IsAnew plan s
  anew s from_is lifetime_is awaited = record {
    from = from_is ∙ sym (ap (λ (n : ℕ). due n LIFETIME) second_is);
    lifetime = lifetime_is;
    until = subst (λ (n : ℕ). n ≤ s.until) (sym (ap (λ (n : ℕ). due n s.lifetime) from_is ∙ ap (λ (n : ℕ). due DUE n) lifetime_is)) awaited;
  }

  course : (old new : World) → IsCourse old new → (s : Watch) × IsAnew plan s × IsLed plan old (watching plan.second LIFETIME plan.second) new (Watching s)
  course old new c =
      let start = watching plan.second LIFETIME plan.second in
      let started : Watched plan old start SECOND LIFETIME old SECOND = record {
        s = record { from = plan.second; lifetime = LIFETIME; until = plan.second; transmitted = false; reported = false; early = [] };
        from_is = second_is;
        lifetime_is = refl;
        awaited = omega (arith, second_is);
        led = nowhere plan old start;
      } in
      let rested = rests plan old start SECOND LIFETIME old c.rested SECOND DUE (omega arith) (omega arith) started c.rest in
      let led = refreshes plan old start SECOND LIFETIME c.rested c.renewed DUE (omega arith) refl (omega arith) rested c.refreshed in
      let again : Watched plan old start DUE LIFETIME c.renewed AGAIN = record {
        s = record { from = DUE; lifetime = LIFETIME; until = due DUE LIFETIME; transmitted = false; reported = false; early = [] };
        from_is = refl;
        lifetime_is = refl;
        awaited = omega arith;
        led = led;
      } in
      let polled = polled_on plan old start DUE LIFETIME c.renewed c.still.polled AGAIN AGAIN (omega arith) again c.still.wait refl in
      let still = shows plan old start DUE LIFETIME c.still.polled new AGAIN AGAIN polled c.still.visible in
      (still.s, anew still.s still.from_is still.lifetime_is still.awaited, still.led)

-- ---- with what the theorem on a client that is left alone says

abbrev pub Promises : Type 0
Promises = (plan : Plan) (old one new : World) (first again : List (Event × Answer)) (request : Sent) (address : SocketAddr) (lifetime : ℕ) (reply : List ℕ) (turn : Turn) → IsFresh plan old → IsRun old first one
    → IsScript plan Start first (Done request address lifetime reply) → least ≤ lifetime → IsRun one again new → IsDriven plan (watching plan.second lifetime plan.second) again turn → HasRenewed plan old address turn new

module _ (law : Promises) (plan : Plan) (address : SocketAddr) (old : World) (fresh : IsFresh plan old) where
  driven_to : (one new : World) (to : Turn) → HasSimulated plan address old outcome.Allocated one → IsLed plan one (watching plan.second LIFETIME plan.second) new to → IsDrivenTo plan address old to new
  driven_to one new to met led =
      let script = subst (λ (p : Progress). IsScript plan Start met.pairs p) met.index_is.2 met.script in
      record {
        first = met.pairs;
        one = one;
        request = met.index_is.0;
        reply = met.index_is.1;
        run = met.run;
        script = script;
        led = led;
        promised = law plan old one new met.pairs led.pairs met.index_is.0 address LIFETIME met.index_is.1 to fresh met.run script (omega arith) led.run led.driven;
      }

  pub gone_by : {E : Type 0} → plan.second ≡ SECOND → (one new : World) → HasSimulated plan address old outcome.Allocated one → (result : Result Stored E) → IfOk result (λ stored. HasGoneBy one stored new)
      → IfOk result (λ stored. (v : World) × HasStored plan address old stored v)
  gone_by second_is one new met (Ok Unmet) is = absurd is
  gone_by second_is one new met (Ok Unrenewed) is = (one, driven_to one one (watching plan.second LIFETIME plan.second) met (nowhere plan one (watching plan.second LIFETIME plan.second)))
  gone_by second_is one new met (Ok Renewed) is =
      let c = course plan second_is one new is in
      (new, (c.0, c.1, driven_to one new (Watching c.0) met c.2))
  gone_by second_is one new met (Err error) is = tt

-- The simulation is ready for an honest run, and the outcome for the address holds in it.
pub known : {E : Type 0} (plan : Plan) (address : SocketAddr) (old : World) → IsFresh plan old → (result : Result Stored E) → IfOk result (λ stored. (v : World) × HasStored plan address old stored v)
    → IfOk result (λ stored. (x : World) × (y : World) × IsFresh plan x × HasStored plan address x stored y)
known plan address old fresh (Ok stored) is = (old, is.0, fresh, is.1)
known plan address old fresh (Err error) is = tt
