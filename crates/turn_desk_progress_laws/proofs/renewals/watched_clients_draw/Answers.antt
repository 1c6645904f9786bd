use Rattle.std.proofs.Common.{◌≡◌, ◌≢◌, ◌++◌, ◌<◌, ◌≤◌, ◌+◌, ◌^◌, ◌⊎◌, ℕ, arith, Bool, false, List, [], ◌∷◌, Option, Some, None, ap, sym, ◌∙◌, subst, inl, inr}
use Rattle.std.specs.Prelude.{nat_lt, not, ◌||◌, find, if◌then◌else◌}
use Rattle.std.proofs.lemmas.Bool.{le-ltb, lt-ltb}
use Rattle.std.specs.declared.net.socket_addr.SocketAddr.{SocketAddr}
use Rattle.turn_desk_core.specs.StunTypesWire.Attributes.{kind_at}
use Rattle.turn_desk_core.specs.StunTypesWire.Types.{method_of}
use Rattle.turn_desk_core.specs.StunTypesBase.Times.{time_after}
use Rattle.turn_desk_core.specs.TurnTypesAttributes.TurnRegistry.{refresh_method}
use Rattle.turn_client_proto_api.specs.declared.event.TurnEvent.{TurnEvent}
use Rattle.turn_client_proto_handshake_laws.specs.Choosing.{Choice, allocate_of, signed_request, signed_sent, signer_by}
use Rattle.turn_client_proto_step_laws.specs.Timers.Drawing.{IsTransmitted}
use Rattle.turn_client_proto_api.specs.Sent.{Sent, sent_of}
use Rattle.turn_client_proto_handshake_laws.specs.Driving.{client_end}
use Rattle.turn_client_proto_messages.specs.Api.Options.{cadence}
use Rattle.turn_client_proto_messages.specs.Waiting.{Queued, is_answer}
use Rattle.turn_client_proto_handshake_laws.specs.Stages.{signed_queued}
use Rattle.turn_client_proto_progress_laws.specs.Keeping.{IsKeeping, IsRefreshing, IsTerm, Term, due_of, next_of}
use Rattle.turn_client_proto_progress_laws.specs.Refreshed.{refresh_sent}
use Rattle.turn_desk_world_laws.specs.World.Calls.{IsTransmittedAs}
use Rattle.turn_client_proto_step_laws.specs.Recv.ClientState.{Protocol}
use Rattle.turn_desk_event.specs.declared.answer.Answer.{Answer}
use Rattle.turn_desk_event.specs.declared.answer.Answer.TheVariants as answer
use Rattle.turn_desk_event.specs.declared.event.Event.TheVariants.{Draw}
use Rattle.turn_desk_world_laws.specs.World.Model.{World}
use Rattle.turn_desk_world_laws.specs.World.Runs.{IsStep}
use Rattle.turn_desk_progress_laws.specs.Promises.{IsFresh, control_at, over}
use Rattle.turn_desk_progress_laws.specs.Scripts.{Plan}
use Rattle.turn_desk_progress_laws.proofs.Clients.{draws}
use Rattle.turn_desk_progress_laws.proofs.Indexes.{same_sent}
use Rattle.turn_desk_progress_laws.specs.Renewals.{AreEarly}
use Rattle.turn_desk_progress_laws.specs.Turns.{Turn, Watch, Watching, Refreshing, transmitted_at, due}
use Rattle.turn_desk_progress_laws.specs.Watched.{IsAgreed, IsAwaiting, IsLeftOf, IsServing, IsWatched, IsAtStep, room_of, term_of}
use Rattle.turn_desk_progress_laws.proofs.Times.{not_later, order, strictly}
use Rattle.turn_desk_progress_laws.proofs.RenewalServing.{same_serving}
use Rattle.turn_desk_progress_laws.proofs.renewals.watched_clients_draw.Goals as goal

module _ (c : goal.After-keeping_clients_refresh) (plan : Plan) (old : World) (fresh : IsFresh plan old) (address : SocketAddr) (s : Watch) (choice : Choice) (agreed : IsAgreed plan old.desk choice) (first : ℕ)
    (lasts : IsTerm (term_of first s.from s.lifetime)) (last : ℕ) (events : List TurnEvent) (p : Protocol) (now : ℕ) where
  abbrev t : Term
  t = term_of first s.from s.lifetime

  -- Nothing is transmitted, and nothing changes.
  pub record Rests (queue : List Queued) (sent : Option Sent) (core : Protocol) : Type 0 where
    pub sent_is : sent ≡ None
    pub same : core ≡ p
    pub soon : now < next_of t last queue

  -- The signed ALLOCATE is transmitted, earlier than a minute before the end.
  pub record Goes (sent : Option Sent) (core : Protocol) : Type 0 where
    pub sent_is : sent ≡ Some (signed_sent plan.client choice)
    pub other : method_of (kind_at (signed_sent plan.client choice).bytes) ≢ refresh_method
    pub none_before : s.early ≡ []
    pub soon : now < due s.from s.lifetime
    pub rested : now + cadence ≤ due_of t
    pub until : s.until ≤ due_of t
    pub keeps : IsKeeping plan.client choice address t now [] events core

  -- A REFRESH is transmitted, a minute before the end.
  pub record Asks (sent : Option Sent) (core : Protocol) : Type 0 where
    pub number : ℕ
    pub fits : number < 2 ^ 96
    pub in_time : now ≡ due_of t
    pub sent_is : sent ≡ Some (refresh_sent plan.client choice number now)
    pub refreshing : IsRefreshing plan.client choice address t number now 1 now events core

  abbrev Outcome : List Queued → Option Sent → Protocol → Type 0
  Outcome queue sent core = Rests queue sent core ⊎ (Goes sent core ⊎ Asks sent core)

  no_refresh : method_of (kind_at (signed_request plan.client choice)) ≢ refresh_method
  no_refresh is =
      let read = c.proof_requests_are_read.ensures.read (signer_by plan.client choice) (allocate_of plan.client) choice.number (c.signed_allocates_answer.ensures.short plan.client choice fresh.room agreed.chosen) fresh.room.1 agreed.chosen.fits in
      Prim.cc (sym (ap method_of read.kind) ∙ is)

  outcome : (queue : List Queued) → last + room_of queue ≤ due_of t → IsLeftOf plan choice queue s.early → s.until ≤ next_of t last queue → now ≤ s.until → IsKeeping plan.client choice address t last queue events p
      → (sent : Option Sent) (core : Protocol) → IsTransmitted p now sent core → Outcome queue sent core
  outcome [] rested left until reached keeps sent core transmitted = elim (order now (due_of t)) [
    | inl soon ↦ (let x = c.keeping_clients_refresh.ensures.still plan.client choice address t last events p core now sent keeps lasts soon transmitted in
        inl (record { sent_is = x.0; same = x.1; soon = omega (arith, soon) }))
    | inr late ↦ (
        let fits = lasts.fits in
        let early = lasts.early in
        let exact : now ≡ due_of t = omega (arith, late, reached, until, rested, fits, early) in
        let x = c.keeping_clients_refresh.ensures.refreshes plan.client choice address t last events p core now sent fresh.room agreed.chosen keeps lasts (omega (arith, rested, exact)) late (omega (arith, exact)) transmitted in
        inr (inr (record {
          number = x.0;
          fits = x.1;
          in_time = exact;
          sent_is = x.2;
          refreshing = x.3;
        })))
  ]
  outcome (one ∷ rest) rested left until reached keeps sent core transmitted = elim (order now (time_after last cadence)) [
    | inl soon ↦ (
        let none : find is_answer (one ∷ rest) ≡ None = ap (λ (q : Queued). find is_answer (q ∷ rest)) left.0 ∙ ap (λ (l : List Queued). find is_answer (signed_queued plan.client choice ∷ l)) left.1 in
        let x = c.keeping_clients_refresh.ensures.rests plan.client choice address t last (one ∷ rest) events p core now sent keeps none soon transmitted in
        inl (record { sent_is = x.0; same = x.1; soon = soon }))
    | inr late ↦ (
        let fits = lasts.fits in
        let early = lasts.early in
        let x = c.keeping_clients_refresh.ensures.releases plan.client choice address t last one rest events p core now sent keeps late transmitted in
        let room : room_of rest ≡ cadence = ap room_of left.1 in
        inr (inl (record {
          sent_is = x.0 ∙ ap (λ (q : Queued). Some (record { bytes = q.bytes; transport = plan.client.transport; from = q.from; to = plan.client.server })) left.0;
          other = no_refresh;
          none_before = left.2;
          soon = omega (arith, reached, until, rested, room, fits, early);
          rested = omega (arith, reached, until, rested, room, fits, early);
          until = omega (arith, until, rested, room, fits, early);
          keeps = subst (λ (l : List Queued). IsKeeping plan.client choice address t now l events core) left.1 x.1;
        })))
  ]

-- ---- in a world

module _ (c : goal.After-keeping_clients_refresh) (plan : Plan) (old : World) (fresh : IsFresh plan old) (address : SocketAddr) (s : Watch) (w v : World) (k : IsWatched plan old address s w) (now : ℕ) (reached : now ≤ s.until) (in_range : now ≤ client_end)
    (core : Protocol) (there : v.client ≡ Some (over (control_at plan.client.transport []) core)) (desk : v.desk ≡ w.desk) where
  abbrev own : Term
  own = term_of k.first s.from s.lifetime

  served : IsServing plan old.desk v.desk
  served = same_serving plan old.desk w.desk v.desk desk k.serving

  abbrev Result : Option Sent → Type 0
  Result sent = Outcome c plan old fresh address s k.choice k.agreed k.first k.lasts k.last k.events k.client.core now k.queue sent core

  found : (sent : Option Sent) → IsTransmitted k.client.core now sent core → Result sent
  found sent transmitted =
      outcome c plan old fresh address s k.choice k.agreed k.first k.lasts k.last k.events k.client.core now k.queue k.rested k.left (not_later s.transmitted s.until (next_of own k.last k.queue) k.until) reached k.client.is sent core transmitted

  rests_so : core ≡ k.client.core → now < next_of own k.last k.queue → IsWatched plan old address (record s { transmitted = s.transmitted || not (nat_lt now s.until) }) v
  rests_so same soon = record {
    choice = k.choice;
    agreed = k.agreed;
    serving = served;
    first = k.first;
    lasts = k.lasts;
    last = k.last;
    queue = k.queue;
    rested = k.rested;
    left = k.left;
    until = strictly s.transmitted now s.until (next_of own k.last k.queue) k.until soon;
    events = k.events;
    reported = k.reported;
    client = record { core = core; there = there; is = subst (λ (q : Protocol). IsKeeping plan.client k.choice address own k.last k.queue k.events q) (sym same) k.client.is };
  }

  goes_so : (sent : Sent) → Goes c plan old fresh address s k.choice k.agreed k.first k.lasts k.last k.events k.client.core now (Some sent) core → IsWatched plan old address (record s { transmitted = false; early = s.early ++ sent ∷ [] }) v
  goes_so sent g =
      let fits = k.lasts.fits in
      let early = k.lasts.early in
      let same = same_sent sent (signed_sent plan.client k.choice) g.sent_is in
      let until = g.until in
      record {
        choice = k.choice;
        agreed = k.agreed;
        serving = served;
        first = k.first;
        lasts = k.lasts;
        last = now;
        queue = [];
        rested = g.rested;
        left = subst (λ (l : List Sent). AreEarly (l ++ sent ∷ [])) (sym g.none_before) (subst (λ (x : Sent). method_of (kind_at x.bytes) ≢ refresh_method) (sym same) g.other);
        until = omega (arith, until);
        events = k.events;
        reported = k.reported;
        client = record { core = core; there = there; is = g.keeps };
      }

  asks_so : (sent : Sent) → Asks c plan old fresh address s k.choice k.agreed k.first k.lasts k.last k.events k.client.core now (Some sent) core → IsAwaiting plan old address sent s.from s.lifetime now [] v
  asks_so sent a = record {
    choice = k.choice;
    agreed = k.agreed;
    serving = served;
    first = k.first;
    lasts = k.lasts;
    in_time = a.in_time;
    in_range = in_range;
    number = a.number;
    fits = a.fits;
    request_is = same_sent sent (refresh_sent plan.client k.choice a.number now) a.sent_is;
    many = 1;
    events = k.events;
    client = record { core = core; there = there; is = a.refreshing };
  }

  abbrev At : Turn → Type 0
  At turn = IsAtStep plan old address turn v

  sends : (sent : Sent) → Result (Some sent) → At (if nat_lt now (due s.from s.lifetime) then Watching (record s { transmitted = false; early = s.early ++ sent ∷ [] }) else Refreshing sent s.from s.lifetime now)
  sends sent (inl r) = absurd (Prim.cc r.sent_is)
  sends sent (inr (inl g)) =
      subst (λ (x : Bool). At (if x then Watching (record s { transmitted = false; early = s.early ++ sent ∷ [] }) else Refreshing sent s.from s.lifetime now)) (sym (lt-ltb now (due s.from s.lifetime) g.soon)) (goes_so sent g)
  sends sent (inr (inr a)) =
      let exact = a.in_time in
      subst (λ (x : Bool). At (if x then Watching (record s { transmitted = false; early = s.early ++ sent ∷ [] }) else Refreshing sent s.from s.lifetime now)) (sym (le-ltb now (due s.from s.lifetime) (omega (arith, exact)))) (asks_so sent a)

  sends_nothing : Result None → At (Watching (record s { transmitted = s.transmitted || not (nat_lt now s.until) }))
  sends_nothing (inl r) = rests_so r.same r.soon
  sends_nothing (inr (inl g)) = absurd (Prim.cc g.sent_is)
  sends_nothing (inr (inr a)) = absurd (Prim.cc a.sent_is)

  by_answer : (ret : Answer) → IsTransmittedAs ret k.client.core now core → At (transmitted_at s now ret)
  unfolding IsTransmittedAs
  by_answer (answer.Transmit transmit) transmitted = sends (sent_of transmit) (found (Some (sent_of transmit)) transmitted)
  by_answer answer.Nothing transmitted = sends_nothing (found None transmitted)
  by_answer _ transmitted = absurd transmitted

pub generated_so : (c : goal.After-keeping_clients_refresh) (plan : Plan) (old : World) → IsFresh plan old → (address : SocketAddr) (s : Watch) (w v : World) → IsWatched plan old address s w → (now : ℕ) → now ≤ s.until → now ≤ client_end → (ret : Answer)
    → IsStep (Draw now) w ret v → IsAtStep plan old address (transmitted_at s now ret) v
generated_so c plan old fresh address s w v k now reached in_range ret step =
    let d = draws (control_at plan.client.transport []) w v k.client.core now ret k.client.there in_range step in
    by_answer c plan old fresh address s w v k now reached in_range d.core d.there d.desk ret d.transmitted

pub returns : goal.returns
returns c = λ plan old w v address s now ret fresh k reached in_range step. generated_so c plan old fresh address s w v k now reached in_range ret step
