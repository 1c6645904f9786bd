-- The handshake over a network that takes time is a loop of the theorem on a client that a driver calls.
use Rattle.std.proofs.Common.{◌≡◌, ◌<◌, ◌≤◌, ◌+◌, ◌++◌, ◌^◌, ℕ, max, List, [], ◌∷◌, refl, sym, ap, ◌∙◌, subst, arith, inl, inr, Vec, Global}
use Rattle.std.specs.Prelude.{IfOk, Result, Ok, Err}
use Rattle.std.proofs.lemmas.List.{append-nil}
use Rattle.std.specs.declared.net.socket_addr.SocketAddr.{SocketAddr}
use Rattle.stun_types_base.specs.Times.{time_after}
use Rattle.stun_types_base.specs.declared.data.Data.{Data}
use Rattle.stun_types_base.specs.declared.transmit.Transmit.{Transmit}
use Rattle.stun_types_base.specs.declared.transport.TransportType.{TransportType}
use Rattle.stun_types_base.specs.declared.transport.TransportType.TheVariants.{Udp, Tcp}
use Rattle.stun_proto_server.specs.Server.{Server}
use Rattle.turn_client_proto_api.specs.Sent.{sent_of}
use Rattle.turn_desk_world_laws.specs.TurnClientProtoStepLaws.Sound.{IsWhole}
use Rattle.turn_desk_event.specs.StunProtoTransaction.Schedule.{end_at}
use Rattle.turn_desk_progress_laws.specs.TurnClientProtoHandshakeLaws.Driving.{client_end}
use Rattle.turn_desk_progress_laws.specs.TurnClientProtoHandshakeLaws.Stages.{AsksForOne}
use Rattle.turn_desk_progress_laws.specs.Loops.{AsksFirst, AsksSecond, DrawsAgain, DrawsFirst, DrawsOn, GivesFirst, GivesSecond, IsLoop, IsNext, Leads, Looks, MayBegin, MayPoll, Polls, Position, Timing, after_draw, arrived, counted, start}
use Rattle.turn_desk_progress_laws.specs.Promises.{HasCome, events_in}
use Rattle.turn_desk_progress_laws.specs.Scripts.{BringsOn, Came, Challenged, Done, Granted, Plan, Progress, Requested, Signed}
use Rattle.turn_desk_core.specs.declared.decision.Decision.TheVariants as by
use Rattle.turn_desk_event.specs.declared.answer.Answer.{Answer}
use Rattle.turn_desk_event.specs.declared.answer.Answer.TheVariants as answer
use Rattle.turn_desk_event.specs.declared.event.ClientCall.TheVariants as call
use Rattle.turn_desk_event.specs.declared.event.Event.{Event}
use Rattle.turn_desk_event.specs.declared.event.Event.TheVariants.{Draw, ToClient, ToDesk}
use Rattle.turn_desk_world.specs.Model.{World}
use Rattle.turn_desk_world.specs.Runs.{IsRun}
use Rattle.test_driver.specs.Carrying.{HasBrought, HasCome as HasArrived, HasExchanged, HasPassed, HasReturned, IsCutInTwo, IsGiven}
use Rattle.test_driver.specs.Driving.{Drives, Happened, IsAlike, IsAny, IsDriven, IsQuiet, IsTurn}
use Rattle.test_driver.specs.declared.carrying.TheConstants.{PAUSE}
use Rattle.test_driver.specs.declared.network.Network.{Network}
use Rattle.test_driver.proofs.Parts.{alike_on, in_order, run_on}
use Rattle.test_honest_network.specs.Latencies.{HasLooped, HasShaken, IfAllocated, IsTimely}
use Rattle.test_honest_network.specs.Simulations.{plan_of}
use Rattle.test_honest_network.specs.declared.latency.TheConstants.{PATIENCE}
use Rattle.test_honest_network.specs.declared.simulation.Outcome.{Outcome}
use Rattle.test_honest_network.specs.declared.simulation.Outcome.TheVariants as outcome
use Rattle.test_honest_network.specs.declared.simulation.TheConstants.{LIFETIME}
use Rattle.test_honest_network.specs.declared.setting.Setting.{Setting}

-- ---- times

at_most : (a b c : ℕ) → a ≤ b → b ≤ c → a ≤ c
at_most a b c first second = omega (arith, first, second)

same_time : (a : ℕ) → a ≤ a
same_time a = omega arith

still_time : (a b : ℕ) → b ≡ a → a ≤ b
still_time a b is = omega (arith, is)

callable : (a b : ℕ) → a ≤ b → b ≤ 2 ^ 60 → a ≤ client_end
callable a b first second = omega (arith, first, second)

-- No later than after so many nanoseconds.
within : (a b n : ℕ) → b ≤ max a (time_after a n) → b ≤ a + n
within a b n le = omega (arith, le)

-- ---- what is under way

pub passes_within : (n : ℕ) (a : Network) (u : World) (b : Network) (v : World) → HasPassed n a u b v → b.time ≤ a.time + n
passes_within n a u b v is = within a.time b.time n is.drives.in_time

pub arrives_within : (transport : TransportType) (reply : List ℕ) (sent : Transmit Data) (a : Network) (u : World) (b : Network) (v : World) → HasArrived transport reply sent a u b v → (a.time ≤ b.time) × (b.time ≤ a.time + PAUSE) × IsAlike a b
arrives_within Udp reply sent a u b v is = (still_time a.time b.time is.0.time, so a.time b.time is.0.time, is.0.alike)
  where
    so : (m n : ℕ) → n ≡ m → n ≤ m + PAUSE
    so m n same = omega (arith, same)
arrives_within Tcp reply sent a u b v is = (in_order IsAny a.time b.time is.passes.drives.log is.passes.drives.driven, passes_within PAUSE a is.middle b is.resumed is.passes, is.passes.drives.alike)

-- ---- loops

module _ (s : Setting) (server : Server) where
  abbrev plan : Plan
  plan = plan_of s

  pub record Led (old : World) (p : Position) (new : World) (q : Position) : Type 0 where
    pub pairs : List (Event × Answer)
    pub run : IsRun old pairs new
    pub loop : IsLoop plan server p pairs q

  loop_on : (p q r : Position) (pairs others : List (Event × Answer)) → IsLoop plan server p pairs q → IsLoop plan server q others r → IsLoop plan server p (pairs ++ others) r
  unfolding IsLoop
  loop_on p q r [] others first second = subst (λ (x : Position). IsLoop plan server x others r) first second
  loop_on p q r (pair ∷ pairs) others first second = (first.0, first.1, loop_on first.0 q r pairs others first.2 second)

  led_on : (old middle new : World) (p q r : Position) → Led old p middle q → Led middle q new r → Led old p new r
  led_on old middle new p q r first second = record {
    pairs = first.pairs ++ second.pairs;
    run = run_on old middle new first.pairs second.pairs first.run second.run;
    loop = loop_on p q r first.pairs second.pairs first.loop second.loop;
  }

  one : (old new : World) (p q : Position) (event : Event) (ret : Answer) → Happened event old ret new → Leads plan server p event ret q → Led old p new q
  unfolding IsLoop
  one old new p q event ret step leads = record { pairs = (event, ret) ∷ []; run = step; loop = (q, leads, refl) }

  -- A position at which this was done, no later than at `last`.
  pub record IsAt (progress : Progress) (challenged came last : ℕ) (p : Position) : Type 0 where
    pub progress_is : p.progress ≡ progress
    pub last_is : p.last ≤ last
    pub challenged_is : p.timing.challenged ≡ challenged
    pub came_is : p.timing.came ≡ came

  -- A run that leads to one.
  pub record Arrives (old : World) (p : Position) (progress : Progress) (challenged came last : ℕ) (new : World) : Type 0 where
    pub q : Position
    pub at : IsAt progress challenged came last q
    pub led : Led old p new q

  arrives_on : (old middle new : World) (p q : Position) (progress : Progress) (challenged came last : ℕ) → Led old p middle q → Arrives middle q progress challenged came last new → Arrives old p progress challenged came last new
  arrives_on old middle new p q progress challenged came last first second = record { q = second.q; at = second.at; led = led_on old middle new p q second.q first second.led }

  is_next : (progress : Progress) (challenged came last now : ℕ) (p : Position) → IsAt progress challenged came last p → last ≤ now → now ≤ client_end → IsNext p now
  is_next progress challenged came last now p at le in_range = record { later = at_most p.last last now at.last_is le; in_range = in_range }

  -- `poll` may be called until then.
  abbrev pub MayBePolled : Progress → (came to : ℕ) → Type 0
  MayBePolled progress came to = (t : Timing) (now : ℕ) → t.came ≡ came → now ≤ to → MayPoll plan server progress t now

  module _ (Is : Answer → Type 0) (progress : Progress) (challenged came to : ℕ) (again : DrawsAgain progress) (stays : (ret : Answer) → Is ret → after_draw progress ret ≡ progress) (in_range : to ≤ client_end) (polls : MayBePolled progress came to) where
    turn_leads : (from now : ℕ) (event : Event) (ret : Answer) → from ≤ now → now ≤ to → (p : Position) → IsAt progress challenged came from p → IsTurn Is now event ret → (q : Position) × IsAt progress challenged came now q × Leads plan server p event ret q
    turn_leads from now event ret le in_time p at (inl is) = (
      record { progress = after_draw p.progress ret; last = now; timing = counted now ret p.timing },
      record {
        progress_is = ap (λ (x : Progress). after_draw x ret) at.progress_is ∙ stays ret is.1;
        last_is = same_time now;
        challenged_is = at.challenged_is;
        came_is = at.came_is;
      },
      DrawsOn now (subst (λ (x : Progress). DrawsAgain x) (sym at.progress_is) again) (is_next progress challenged came from now p at le (at_most now to client_end in_time in_range)) is.0 refl,
    )
    turn_leads from now event ret le in_time p at (inr (inl is)) = (
      record p { last = now },
      record { progress_is = at.progress_is; last_is = same_time now; challenged_is = at.challenged_is; came_is = at.came_is },
      Polls now (subst (λ (x : Progress). MayPoll plan server x p.timing now) (sym at.progress_is) (polls p.timing now at.came_is in_time)) (is_next progress challenged came from now p at le (at_most now to client_end in_time in_range)) is refl,
    )
    turn_leads from now event ret le in_time p at (inr (inr is)) = (
      record p { last = now },
      record { progress_is = at.progress_is; last_is = same_time now; challenged_is = at.challenged_is; came_is = at.came_is },
      Looks call.PollEvent now tt (is_next progress challenged came from now p at le (at_most now to client_end in_time in_range)) is refl,
    )

    log_leads : (from : ℕ) (log : List (Event × Answer)) (p : Position) → IsAt progress challenged came from p → IsDriven Is from log to → (q : Position) × IsAt progress challenged came to q × IsLoop plan server p log q
    unfolding IsDriven IsLoop
    log_leads from [] p at is = (p, record { progress_is = at.progress_is; last_is = at_most p.last from to at.last_is is; challenged_is = at.challenged_is; came_is = at.came_is }, refl)
    log_leads from (pair ∷ pairs) p at is =
        let step = turn_leads from is.0 pair.0 pair.1 is.1 (in_order Is is.0 to pairs is.3) p at is.2 in
        let rest = log_leads is.0 pairs step.0 step.1 is.3 in
        (rest.0, rest.1, (step.0, step.2, rest.2))

  -- The driver's loop goes on at a position.
  drives_on : (Is : Answer → Type 0) (progress : Progress) (challenged came : ℕ) → DrawsAgain progress → ((ret : Answer) → Is ret → after_draw progress ret ≡ progress) → (until : ℕ) (a : Network) (u : World) (b : Network) (v : World) → Drives Is until a u b v
      → b.time ≤ client_end → MayBePolled progress came b.time → (p : Position) → IsAt progress challenged came a.time p → Arrives u p progress challenged came b.time v
  drives_on Is progress challenged came again stays until a u b v is in_range polls p at =
      let l = log_leads Is progress challenged came b.time again stays in_range polls a.time is.log p at is.driven in
      record { q = l.0; at = l.1; led = record { pairs = is.log; run = is.run; loop = l.2 } }

  sooner : (progress : Progress) (came to later : ℕ) → to ≤ later → MayBePolled progress came later → MayBePolled progress came to
  sooner progress came to later le polls = λ t now came_is in_time. polls t now came_is (at_most now to later in_time le)

  -- ---- a reply

  module _ (sent : Transmit Data) (reply : List ℕ) (Away : List ℕ → Progress) (Home : Progress) (own : sent.transport ≡ plan.client.transport) (again : (head : List ℕ) → DrawsAgain (Away head)) (stays : (head : List ℕ) (ret : Answer) → after_draw (Away head) ret ≡ Away head)
      (all : (p : Position) (head : List ℕ) (bytes : Vec ℕ Global) (now : ℕ) (ret : Answer) → p.progress ≡ Away head → BringsOn plan.client.transport reply head bytes.items [] → IsNext p now
      → Leads plan server p (ToClient bytes sent.to sent.from now) ret (record { progress = Home; last = now; timing = arrived now [] p.timing }))
      (part : (p : Position) (head : List ℕ) (byte : ℕ) (more : List ℕ) (bytes : Vec ℕ Global) (now : ℕ) (ret : Answer) → p.progress ≡ Away head → BringsOn plan.client.transport reply head bytes.items (byte ∷ more) → IsNext p now
      → Leads plan server p (ToClient bytes sent.to sent.from now) ret (record { progress = Away (head ++ bytes.items); last = now; timing = p.timing }))
      (challenged came : ℕ) where
    all_come : (head bytes : List ℕ) (now : ℕ) (u v : World) (p : Position) → IsAt (Away head) challenged came now p → now ≤ client_end → IsGiven bytes sent now u v → BringsOn plan.client.transport reply head bytes [] → Arrives u p Home challenged now now v
    all_come head bytes now u v p at in_range is brings = record {
      q = record { progress = Home; last = now; timing = arrived now [] p.timing };
      at = record { progress_is = refl; last_is = same_time now; challenged_is = at.challenged_is; came_is = refl };
      led = one u v p (record { progress = Home; last = now; timing = arrived now [] p.timing }) (ToClient is.chunk sent.to sent.from now) is.ret is.step
          (all p head is.chunk now is.ret at.progress_is (subst (λ (l : List ℕ). BringsOn plan.client.transport reply head l []) (sym is.same) brings) (is_next (Away head) challenged came now now p at (same_time now) in_range));
    }

    part_comes : (byte : ℕ) (more bytes : List ℕ) (now : ℕ) (u v : World) (p : Position) → IsAt (Away []) challenged came now p → now ≤ client_end → IsGiven bytes sent now u v → BringsOn plan.client.transport reply [] bytes (byte ∷ more)
        → Arrives u p (Away bytes) challenged came now v
    part_comes byte more bytes now u v p at in_range is brings = record {
      q = record { progress = Away is.chunk.items; last = now; timing = p.timing };
      at = record { progress_is = ap Away is.same; last_is = same_time now; challenged_is = at.challenged_is; came_is = at.came_is };
      led = one u v p (record { progress = Away is.chunk.items; last = now; timing = p.timing }) (ToClient is.chunk sent.to sent.from now) is.ret is.step
          (part p [] byte more is.chunk now is.ret at.progress_is (subst (λ (l : List ℕ). BringsOn plan.client.transport reply [] l (byte ∷ more)) (sym is.same) brings) (is_next (Away []) challenged came now now p at (same_time now) in_range));
    }

    -- Over TCP it comes in two chunks.
    two_come : (rest : List ℕ) (a : Network) (u : World) (b : Network) (v : World) (is : IsCutInTwo reply sent a u b v) → is.rest ≡ rest → plan.client.transport ≡ Tcp → (p : Position) → IsAt (Away []) challenged came a.time p → b.time ≤ client_end
        → ((head : List ℕ) → MayBePolled (Away head) came b.time) → Arrives u p Home challenged b.time b.time v
    two_come [] a u b v is rest_is tcp p at in_range polls = absurd (is.some_rest rest_is)
    two_come (byte ∷ more) a u b v is rest_is tcp p at in_range polls =
        let before = in_order IsAny a.time b.time is.passes.drives.log is.passes.drives.driven in
        let first = part_comes byte more is.head a.time u is.middle p at (at_most a.time b.time client_end before in_range) is.first
        (subst (λ (t : TransportType). BringsOn t reply [] is.head (byte ∷ more)) (sym tcp) (is.some_head, is.parts ∙ ap (λ (l : List ℕ). is.head ++ l) rest_is)) in
        let resumed = drives_on IsAny (Away is.head) challenged came (again is.head) (λ ret any. stays is.head ret) (time_after a.time PAUSE) a is.middle b is.resumed is.passes.drives in_range (polls is.head) first.q first.at in
        let second = all_come is.head is.rest b.time is.resumed v resumed.q resumed.at in_range is.second
        (subst (λ (t : TransportType). BringsOn t reply is.head is.rest []) (sym tcp) (is.some_rest, is.parts ∙ sym (append-nil (is.head ++ is.rest)))) in
        arrives_on u is.middle v p first.q Home challenged b.time b.time first.led (arrives_on is.middle is.resumed v first.q resumed.q Home challenged b.time b.time resumed.led second)

    comes : (transport : TransportType) → plan.client.transport ≡ transport → (a : Network) (u : World) (b : Network) (v : World) → HasArrived transport reply sent a u b v → (p : Position) → IsAt (Away []) challenged came a.time p → b.time ≤ client_end
        → ((head : List ℕ) → MayBePolled (Away head) came b.time) → Arrives u p Home challenged b.time b.time v
    comes Udp udp a u b v is p at in_range polls =
        all_come [] reply b.time u v p (subst (λ (n : ℕ). IsAt (Away []) challenged came n p) (sym is.0.time) at) in_range (subst (λ (n : ℕ). IsGiven reply sent n u v) (sym is.0.time) is.1)
        (subst (λ (t : TransportType). BringsOn t reply [] reply []) (sym udp) (refl, refl))
    comes Tcp tcp a u b v is p at in_range polls = two_come is.rest a u b v is refl tcp p at in_range polls

    returns : (a : Network) (u : World) (b : Network) (v : World) → HasReturned reply sent a u b v → (p : Position) → IsAt (Away []) challenged came a.time p → b.time ≤ client_end → ((head : List ℕ) → MayBePolled (Away head) came b.time)
        → Arrives u p Home challenged b.time b.time v
    returns a u b v is p at in_range polls =
        let before = (arrives_within sent.transport reply sent is.arrived is.reached b v is.came).0 in
        let waited = drives_on IsAny (Away []) challenged came (again []) (λ ret any. stays [] ret) (time_after a.time a.latency) a u is.arrived is.reached is.passes.drives (at_most is.arrived.time b.time client_end before in_range)
        (sooner (Away []) came is.arrived.time b.time before (polls [])) p at in
        arrives_on u is.reached v p waited.q Home challenged b.time b.time waited.led
        (comes plan.client.transport refl is.arrived is.reached b v (subst (λ (t : TransportType). HasArrived t reply sent is.arrived is.reached b v) own is.came) waited.q waited.at in_range polls)

  -- ---- the first exchange

  first_end : (now : ℕ) → now ≤ 10_000_000_000 → now < end_at plan.client.made plan.client.config.waits
  first_end now le = so now le
    where
      so : (n : ℕ) → n ≤ 10_000_000_000 → n < time_after 0 39_500_000_000
      so n le = omega (arith, le)

  second_end : (came now : ℕ) → now ≤ came + 10_000_000_000 → came ≤ 2 ^ 60 → now < end_at came plan.client.config.waits
  second_end came now le in_range = so came now le in_range
    where
      so : (c n : ℕ) → n ≤ c + 10_000_000_000 → c ≤ 2 ^ 60 → n < time_after c 39_500_000_000
      so c n le in_range = omega (arith, le, in_range)

  -- The times at which the request and the reply arrive.
  pub brought_in_order : (decision : _) (sent : Transmit Data) (a : Network) (u : World) (b : Network) (v : World) → (is : HasBrought decision sent a u b v) → (a.time ≤ is.arrived.time) × (is.arrived.time ≤ b.time)
  brought_in_order decision sent a u b v is = (
    in_order IsAny a.time is.arrived.time is.passes.drives.log is.passes.drives.driven,
    at_most is.arrived.time is.returned.arrived.time b.time (in_order IsAny is.arrived.time is.returned.arrived.time is.returned.passes.drives.log is.returned.passes.drives.driven)
        (arrives_within sent.transport is.reply.items sent is.returned.arrived is.returned.reached b v is.returned.came).0,
  )

  pub brought_within : (decision : _) (sent : Transmit Data) (a : Network) (u : World) (b : Network) (v : World) → (is : HasBrought decision sent a u b v) → a.latency ≤ 3_000_000_000
      → (is.arrived.time ≤ a.time + 3_000_000_000) × (b.time ≤ a.time + 6_001_000_000) × IsAlike a b
  brought_within decision sent a u b v is latency =
      let r = is.returned in
      let came = arrives_within sent.transport is.reply.items sent r.arrived r.reached b v r.came in
      let first = passes_within a.latency a u is.arrived is.reached is.passes in
      let second = passes_within is.arrived.latency is.arrived is.replied r.arrived r.reached r.passes in
      let same = is.passes.drives.alike.latency in (
        one_way a.time a.latency is.arrived.time first latency,
        both_ways a.time a.latency is.arrived.time is.arrived.latency r.arrived.time b.time first same second came.1 latency,
        alike_on a is.arrived b is.passes.drives.alike (alike_on is.arrived r.arrived b r.passes.drives.alike came.2),
      )
    where
      one_way : (a l b : ℕ) → b ≤ a + l → l ≤ 3_000_000_000 → b ≤ a + 3_000_000_000
      one_way a l b le most = omega (arith, le, most)

      both_ways : (a l b m c d : ℕ) → b ≤ a + l → m ≡ l → c ≤ b + m → d ≤ c + PAUSE → l ≤ 3_000_000_000 → d ≤ a + 6_001_000_000
      both_ways a l b m c d first same second third most = omega (arith, first, same, second, third, most)

  module _ (sent : Transmit Data) (own : sent.transport ≡ plan.client.transport) where
    first_brought : (decision : _) (challenged came : ℕ) (a : Network) (u : World) (b : Network) (v : World) (is : HasBrought decision sent a u b v) (p : Position) → IsAt (Requested (sent_of sent)) challenged came a.time p → b.time ≤ 10_000_000_000
        → Arrives u p Came (time_after is.arrived.time is.arrived.lead) b.time b.time v
    first_brought decision challenged came a u b v is p at soon =
        let request = sent_of sent in
        let reply = is.reply.items in
        let now = time_after is.arrived.time is.arrived.lead in
        let ends : MayBePolled (Requested request) came b.time = λ t n came_is le. first_end n (at_most n b.time 10_000_000_000 le soon) in
        let before = (brought_in_order decision sent a u b v is).1 in
        let in_range = callable b.time 10_000_000_000 soon (omega arith) in
        let waited = drives_on IsAny (Requested request) challenged came tt (λ ret any. refl) (time_after a.time a.latency) a u is.arrived is.reached is.passes.drives (at_most is.arrived.time b.time client_end before in_range)
        (sooner (Requested request) came is.arrived.time b.time before ends) p at in
        let q : Position = record { progress = Challenged request reply []; last = waited.q.last; timing = record waited.q.timing { challenged = now } } in
        let challenged_at : IsAt (Challenged request reply []) now came is.arrived.time q = record { progress_is = refl; last_is = waited.at.last_is; challenged_is = refl; came_is = waited.at.came_is } in
        let requested = one is.reached is.replied waited.q q (ToDesk is.bytes sent.from now decision is.seed) (answer.Reply is.reply) is.requested
        (AsksFirst request is.bytes now decision is.seed waited.at.progress_is is.same refl refl) in
        let returned = returns sent reply (λ head. Challenged request reply head) Came own (λ head. tt) (λ head ret. refl) (λ p head bytes n ret at brings next. GivesFirst request reply head [] bytes n at brings next refl refl)
        (λ p head byte more bytes n ret at brings next. GivesFirst request reply head (byte ∷ more) bytes n at brings next refl refl) now came is.arrived is.replied b v is.returned q challenged_at in_range
        (λ head t n came_is le. first_end n (at_most n b.time 10_000_000_000 le soon)) in
        arrives_on u is.reached v p waited.q Came now b.time b.time waited.led (arrives_on is.reached is.replied v waited.q q Came now b.time b.time requested returned)

    -- ---- the second one

    module _ (address : SocketAddr) (asks : AsksForOne plan.client address) (whole : IsWhole address) (expiry : server.nonce_expiry ≡ 3_600_000_000_000) where
      second_brought : (challenged came : ℕ) (a : Network) (u : World) (b : Network) (v : World) (is : HasBrought (by.Allocate (address ∷ []) LIFETIME) sent a u b v) (p : Position) → IsAt (Signed (sent_of sent)) challenged came a.time p
          → is.arrived.lead ≡ 0 → is.arrived.time ≤ 20_000_000_000 → b.time ≤ came + 10_000_000_000 → came ≤ 10_000_000_000 → Arrives u p (Done (sent_of sent) address LIFETIME is.reply.items) challenged b.time b.time v
      second_brought challenged came a u b v is p at lead early soon came_early =
          let request = sent_of sent in
          let reply = is.reply.items in
          let now = time_after is.arrived.time is.arrived.lead in
          let ends : MayBePolled (Signed request) came b.time = λ t n came_is le. subst (λ (c : ℕ). n < end_at c plan.client.config.waits) (sym came_is) (second_end came n (at_most n b.time (came + 10_000_000_000) le soon) (late came came_early)) in
          let before = (brought_in_order (by.Allocate (address ∷ []) LIFETIME) sent a u b v is).1 in
          let in_range = callable b.time 20_000_000_000 (sum came b.time soon came_early) (omega arith) in
          let waited = drives_on IsAny (Signed request) challenged came tt (λ ret any. refl) (time_after a.time a.latency) a u is.arrived is.reached is.passes.drives (at_most is.arrived.time b.time client_end before in_range)
          (sooner (Signed request) came is.arrived.time b.time before ends) p at in
          let q : Position = record { progress = Granted request address LIFETIME reply []; last = waited.q.last; timing = waited.q.timing } in
          let granted_at : IsAt (Granted request address LIFETIME reply []) challenged came is.arrived.time q = record { progress_is = refl; last_is = waited.at.last_is; challenged_is = waited.at.challenged_is; came_is = waited.at.came_is } in
          let requested = one is.reached is.replied waited.q q (ToDesk is.bytes sent.from now (by.Allocate (address ∷ []) LIFETIME) is.seed) (answer.Reply is.reply) is.requested
          (AsksSecond request is.bytes now address LIFETIME is.seed waited.at.progress_is is.same (valid waited.q.timing.challenged is.arrived.time is.arrived.lead server.nonce_expiry early lead expiry) asks whole refl refl) in
          let returned = returns sent reply (λ head. Granted request address LIFETIME reply head) (Done request address LIFETIME reply) own (λ head. tt) (λ head ret. refl)
          (λ p head bytes n ret at brings next. GivesSecond request address LIFETIME reply head [] bytes n at brings next refl refl) (λ p head byte more bytes n ret at brings next. GivesSecond request address LIFETIME reply head (byte ∷ more) bytes n at brings next refl refl)
          challenged came is.arrived is.replied b v is.returned q granted_at in_range (λ head. ends) in
          arrives_on u is.reached v p waited.q (Done request address LIFETIME reply) challenged b.time b.time waited.led
          (arrives_on is.reached is.replied v waited.q q (Done request address LIFETIME reply) challenged b.time b.time requested returned)
        where
          late : (c : ℕ) → c ≤ 10_000_000_000 → c ≤ 2 ^ 60
          late c le = omega (arith, le)

          sum : (c b : ℕ) → b ≤ c + 10_000_000_000 → c ≤ 10_000_000_000 → b ≤ 20_000_000_000
          sum c b first second = omega (arith, first, second)

          valid : (c t lead expiry : ℕ) → t ≤ 20_000_000_000 → lead ≡ 0 → expiry ≡ 3_600_000_000_000 → time_after t lead < time_after c expiry
          valid c t lead expiry le lead_is expiry_is = omega (arith, le, lead_is, expiry_is)

-- ---- all of it

abbrev pub Promises : Type 0
Promises = (plan : Plan) (old new : World) (pairs : List (Event × Answer)) (position : Position) → MayBegin plan old → IsRun old pairs new → IsLoop plan old.desk.auth start pairs position → HasCome plan old (events_in pairs) position.progress new

stays_came : (ret : Answer) → IsQuiet ret → after_draw Came ret ≡ Came
stays_came (answer.Transmit sent) quiet = absurd quiet
stays_came _ quiet = refl

module _ (promises : Promises) (s : Setting) (address : SocketAddr) (old : World) (begins : MayBegin (plan_of s) old) (expiry : old.desk.auth.nonce_expiry ≡ 3_600_000_000_000) (asks : AsksForOne (plan_of s).client address) (whole : IsWhole address) where
  come : (progress : Progress) (challenged came last : ℕ) (new : World) → (is : Arrives s old.desk.auth old start progress challenged came last new) → HasCome (plan_of s) old (events_in is.led.pairs) progress new
  come progress challenged came last new is =
      subst (λ (x : Progress). HasCome (plan_of s) old (events_in is.led.pairs) x new) is.at.progress_is (promises (plan_of s) old new is.led.pairs is.q begins is.led.run is.led.loop)

  -- ---- the first message

  first_sent : (before : Network) (sent : Transmit Data) (v : World) → before.time ≡ 0 → Happened (Draw before.time) old (answer.Transmit sent) v → Arrives s old.desk.auth old start (Requested (sent_of sent)) 0 0 before.time v
  first_sent before sent v time step =
      let q : Position = record { progress = Requested (sent_of sent); last = 0; timing = record { many = 1; sent = 0; challenged = 0; came = 0 } } in
      record {
        q = q;
        at = record { progress_is = refl; last_is = omega arith; challenged_is = refl; came_is = refl };
        led = one s old.desk.auth old v start q (Draw before.time) (answer.Transmit sent) step (DrawsFirst refl (record { later = omega arith; in_range = omega arith }) (ap Draw time) refl);
      }

  -- ---- the second message

  second_sent : (challenged : ℕ) (a : Network) (u : World) (b : Network) (v w : World) (sent : Transmit Data) → a.time ≤ 10_000_000_000 → Drives IsQuiet (time_after a.time PATIENCE) a u b v → Happened (Draw b.time) v (answer.Transmit sent) w
      → Arrives s old.desk.auth old start Came challenged a.time a.time u → Arrives s old.desk.auth old start (Signed (sent_of sent)) challenged a.time b.time w
  second_sent challenged a u b v w sent early drives step first =
      let soon = within a.time b.time PATIENCE drives.in_time in
      let in_range = near a.time b.time soon early in
      let rested = drives_on s old.desk.auth IsQuiet Came challenged a.time tt stays_came (time_after a.time PATIENCE) a u b v drives in_range
      (λ t n came_is le. inl (subst (λ (c : ℕ). n < end_at c (plan_of s).client.config.waits) (sym came_is) (second_end s old.desk.auth a.time n (longer a.time b.time n soon le) (late a.time early)))) first.q first.at in
      let q : Position = record { progress = after_draw rested.q.progress (answer.Transmit sent); last = b.time; timing = counted b.time (answer.Transmit sent) rested.q.timing } in
      let signed = one s old.desk.auth v w rested.q q (Draw b.time) (answer.Transmit sent) step
      (DrawsOn b.time (subst (λ (x : Progress). DrawsAgain x) (sym rested.at.progress_is) tt) (record { later = rested.at.last_is; in_range = in_range }) refl refl) in
      record {
        q = q;
        at = record { progress_is = ap (λ (x : Progress). after_draw x (answer.Transmit sent)) rested.at.progress_is; last_is = same_time b.time; challenged_is = rested.at.challenged_is; came_is = rested.at.came_is };
        led = led_on s old.desk.auth old u w start first.q q first.led (led_on s old.desk.auth u v w first.q rested.q q rested.led signed);
      }
    where
      near : (a b : ℕ) → b ≤ a + PATIENCE → a ≤ 10_000_000_000 → b ≤ client_end
      near a b le early = omega (arith, le, early)

      late : (a : ℕ) → a ≤ 10_000_000_000 → a ≤ 2 ^ 60
      late a le = omega (arith, le)

      longer : (a b n : ℕ) → b ≤ a + PATIENCE → n ≤ b → n ≤ a + 10_000_000_000
      longer a b n soon le = omega (arith, soon, le)

  pub looped : (before : Network) (after : Network) (new : World) → IsTimely before → HasShaken address before old after new → HasLooped (plan_of s) address old new
  looped before after new timely is =
      let e = is.second in
      let d = e.transmits.drives in
      let latency = timely.latency in
      let one_exchange = brought_within s old.desk.auth (by.Refuse 400) is.sent before is.transmitted is.ready is.challenged is.first latency in
      let alike = alike_on before is.ready e.ready one_exchange.2 d.alike in
      let other_exchange = brought_within s old.desk.auth (by.Allocate (address ∷ []) LIFETIME) e.sent e.ready e.transmitted after new e.brought (as_long before.latency e.ready.latency alike.latency latency) in
      let came = soon before.time is.ready.time timely.time one_exchange.1 in
      let patient = within is.ready.time e.ready.time PATIENCE d.in_time in
      let requested = first_sent before is.sent is.transmitted timely.time is.step in
      let own = (come (Requested (sent_of is.sent)) 0 0 before.time is.transmitted requested).1.transport in
      let brought = first_brought s old.desk.auth is.sent own (by.Refuse 400) 0 0 before is.transmitted is.ready is.challenged is.first requested.q requested.at came in
      let challenged = time_after is.first.arrived.time is.first.arrived.lead in
      let both = arrives_on s old.desk.auth old is.transmitted is.challenged start requested.q Came challenged is.ready.time is.ready.time requested.led brought in
      let signed = second_sent challenged is.ready is.challenged e.ready e.transmits.quiet e.transmitted e.sent came d e.transmits.step both in
      let own_too = (come (Signed (sent_of e.sent)) challenged is.ready.time e.ready.time e.transmitted signed).2.transport in
      let lead = alike_on before e.ready e.brought.arrived alike e.brought.passes.drives.alike in
      let granted = second_brought s old.desk.auth e.sent own_too address asks whole expiry challenged is.ready.time e.ready e.transmitted after new e.brought signed.q signed.at (lead.lead ∙ timely.lead)
      (early is.ready.time e.ready.time e.brought.arrived.time came patient other_exchange.0) (in_time is.ready.time e.ready.time after.time patient other_exchange.1) came in
      let request = sent_of e.sent in
      let reply = e.brought.reply.items in
      let all = arrives_on s old.desk.auth old e.transmitted new start signed.q (Done request address LIFETIME reply) challenged after.time after.time signed.led granted in
      record {
        begins = begins;
        pairs = all.led.pairs;
        run = all.led.run;
        position = all.q;
        loop = all.led.loop;
        request = request;
        reply = reply;
        done = all.at.progress_is;
        promised = come (Done request address LIFETIME reply) challenged after.time after.time new all;
      }
    where
      as_long : (l m : ℕ) → m ≡ l → l ≤ 3_000_000_000 → m ≤ 3_000_000_000
      as_long l m same le = omega (arith, same, le)

      soon : (a b : ℕ) → a ≡ 0 → b ≤ a + 6_001_000_000 → b ≤ 10_000_000_000
      soon a b is le = omega (arith, is, le)

      early : (c r n : ℕ) → c ≤ 10_000_000_000 → r ≤ c + PATIENCE → n ≤ r + 3_000_000_000 → n ≤ 20_000_000_000
      early c r n first second third = omega (arith, first, second, third)

      in_time : (c r n : ℕ) → r ≤ c + PATIENCE → n ≤ r + 6_001_000_000 → n ≤ c + 10_000_000_000
      in_time c r n first second = omega (arith, first, second)

-- The simulation may begin such a loop, and the outcome of the handshake holds in it.
pub known : {E : Type 0} (s : Setting) (address : SocketAddr) (old : World) (before : Network) (result : Result Outcome E) → ((after : Network) (new : World) → HasShaken address before old after new → HasLooped (plan_of s) address old new)
    → IfOk result (λ came. IfAllocated came ((after : Network) × (new : World) × HasShaken address before old after new)) → IfOk result (λ came. IfAllocated came ((x : World) × (y : World) × HasLooped (plan_of s) address x y))
known s address old before (Ok outcome.Silent) so is = tt
known s address old before (Ok outcome.CannotAgree) so is = tt
known s address old before (Ok outcome.Allocated) so is = (old, is.1, so is.0 is.1 is.2)
known s address old before (Err error) so is = tt

-- ---- its parts

pub brought_alike : (decision : _) (sent : Transmit Data) (a : Network) (u : World) (b : Network) (v : World) → HasBrought decision sent a u b v → IsAlike a b
brought_alike decision sent a u b v is =
    let r = is.returned in
    alike_on a is.arrived b is.passes.drives.alike (alike_on is.arrived r.arrived b r.passes.drives.alike (arrives_within sent.transport is.reply.items sent r.arrived r.reached b v r.came).2)

pub shaken_on : {E : Type 0} (address : SocketAddr) (before : Network) (old : World) (sent : Transmit Data) (transmitted : World) (ready : Network) (challenged : World) (after : Network) (new : World) → Happened (Draw before.time) old (answer.Transmit sent) transmitted
    → HasBrought (by.Refuse 400) sent before transmitted ready challenged → (result : Result Outcome E) → IfOk result (λ came. IfAllocated came (HasExchanged PATIENCE (by.Allocate (address ∷ []) LIFETIME) ready challenged after new))
    → IfOk result (λ came. IfAllocated came (HasShaken address before old after new))
shaken_on address before old sent transmitted ready challenged after new step first (Ok outcome.Silent) is = tt
shaken_on address before old sent transmitted ready challenged after new step first (Ok outcome.CannotAgree) is = tt
shaken_on address before old sent transmitted ready challenged after new step first (Ok outcome.Allocated) is = record { sent = sent; transmitted = transmitted; step = step; ready = ready; challenged = challenged; first = first; second = is }
shaken_on address before old sent transmitted ready challenged after new step first (Err error) is = tt

pub shaken_then : (address : SocketAddr) (before : Network) (old : World) (after : Network) (new : World) (came : Outcome) → IfAllocated came (HasShaken address before old after new) → IfAllocated came ((x : Network) × (y : World) × HasShaken address before old x y)
shaken_then address before old after new outcome.Silent is = tt
shaken_then address before old after new outcome.CannotAgree is = tt
shaken_then address before old after new outcome.Allocated is = (after, new, is)
