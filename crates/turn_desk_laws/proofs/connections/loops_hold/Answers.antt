use Rattle.std.proofs.Common.{◌≡◌, ◌<◌, ◌≤◌, ◌+◌, ◌^◌, ◌++◌, arith, ℕ, List, [], ◌∷◌, Some, ap, refl, sym, ◌∙◌, subst}
use Rattle.std.specs.Prelude.{Vec}
use Rattle.std.specs.declared.alloc.Global.{Global}
use Rattle.std.specs.declared.net.socket_addr.SocketAddr.{SocketAddr}
use Rattle.turn_desk_core.specs.StunTypesBase.declared.transport.TransportType.{TransportType}
use Rattle.turn_desk_event.specs.StunProtoTransaction.Schedule.{transmissions}
use Rattle.turn_client_proto_api.specs.StunProtoAgent.State.{is_tcp}
use Rattle.turn_client_proto_api.specs.Sent.{Sent}
use Rattle.turn_client_proto_api.specs.declared.event.TurnEvent.{TurnEvent}
use Rattle.turn_client_proto_step_laws.specs.Recv.ClientState.{Protocol}
use Rattle.turn_client_proto_handshake_laws.specs.Choosing.{Choice, IsChoice, standing_by}
use Rattle.turn_client_proto_handshake_laws.specs.Requested.{count_of}
use Rattle.turn_client_proto_handshake_laws.specs.Stages.{Holds, created}
use Rattle.turn_desk_event.specs.declared.answer.Answer.{Answer}
use Rattle.turn_desk_event.specs.declared.answer.Answer.TheVariants as answer
use Rattle.turn_desk_event.specs.declared.event.ClientCall.{ClientCall}
use Rattle.turn_desk_event.specs.declared.event.ClientCall.TheVariants as call
use Rattle.turn_desk_event.specs.declared.event.Event.{Event}
use Rattle.turn_desk_event.specs.declared.event.Event.TheVariants.{Call, ToClient}
use Rattle.turn_desk_world_laws.specs.World.Model.{World}
use Rattle.turn_desk_world_laws.specs.World.Runs.{IsRun, IsStep}
use Rattle.turn_desk_progress_laws.specs.Joining.{IsSameDesk, ReportsOwn}
use Rattle.turn_desk_progress_laws.specs.Linked.{IsOverTcp}
use Rattle.turn_desk_progress_laws.specs.Links.{Link}
use Rattle.turn_desk_progress_laws.specs.Loops.{AsksFirst, AsksSecond, DrawsAgain, DrawsFirst, DrawsOn, GivesFirst, GivesSecond, IsLoop, Leads, Looks, MayBegin, MayPoll, Polls, Position, Receives, Timing, after_draw, arrived, counted, start, transmitted_next}
use Rattle.turn_desk_progress_laws.specs.LoopStages.{IsAtPosition as IsAtLoop, IsRepliedSo, IsStageOf, IsTransmittedBy, Left, Queues}
use Rattle.turn_desk_progress_laws.specs.Promises.{HasClient, control_at, event_in, events_in, over}
use Rattle.turn_desk_progress_laws.specs.Scripts.{Barred, BringsOn, Came, Challenged, Done, Granted, IsLook, Plan, Progress, Requested, Signed, Silent, Start, brought_first, brought_second, replied_first, replied_second, transmitted_first}
use Rattle.turn_desk_progress_laws.specs.Standing.{IsOfSettings}
use Rattle.turn_desk_progress_laws.proofs.Clients.{IsLooked, IsLookedOn, Still, Took, looks}
use Rattle.turn_desk_progress_laws.proofs.Coming.{DoReach, DoWait, IsBroughtOn, brings, none_yet, waiting_rests}
use Rattle.turn_desk_progress_laws.proofs.Looping.{unserved_so}
use Rattle.turn_desk_progress_laws.proofs.Runs.{begin_run, run_more}
use Rattle.turn_desk_progress_laws.proofs.Same.{run_same}
use Rattle.turn_desk_laws.specs.ConnectionLoops.{Target, holding}
use Rattle.turn_desk_laws.specs.ConnectionStages.{IsAtPosition, IsSameServer}
use Rattle.turn_desk_laws.proofs.connections.loops_hold.Goals as goal

-- The client holds the allocation, and nothing is queued.
pub record IsHeldAt (plan : Plan) (old : World) (address : SocketAddr) (lifetime : ℕ) (t : Timing) (w : World) : Type 0 where
  pub choice : Choice
  pub chosen : IsChoice plan.client choice
  pub of : IsOfSettings old.desk.auth choice.reported
  pub left : List TurnEvent
  pub client : HasClient plan [] w (λ p. Holds plan.client choice address lifetime t.came t.sent [] left p)

-- The second request was transmitted once or more; and once the allocation is held, nothing is queued.
abbrev Alone : Plan → World → Progress → Timing → World → Type 0
Alone plan old (Signed request) t w = 1 ≤ t.many
Alone plan old (Granted request address lifetime reply head) t w = 1 ≤ t.many
Alone plan old (Done request address lifetime reply) t w = IsHeldAt plan old address lifetime t w
Alone plan old _ t w = Unit {0}

module _ (plan : Plan) (old v : World) where
  first_transmitted : (t : Timing) (r : Answer) → Alone plan old (transmitted_first r) t v
  first_transmitted t (answer.Transmit sent) = tt
  first_transmitted t _ = tt

  first_replied : (t : Timing) (request : Sent) (r : Answer) → Alone plan old (replied_first request r) t v
  first_replied t request (answer.Reply reply) = tt
  first_replied t request _ = tt

  first_brought : (t : Timing) (request : Sent) (reply head rest : List ℕ) → Alone plan old (brought_first request reply head rest) t v
  first_brought t request reply head [] = tt
  first_brought t request reply head (byte ∷ rest) = tt

  second_replied : (t : Timing) (request : Sent) (address : SocketAddr) (lifetime : ℕ) (r : Answer) → 1 ≤ t.many → Alone plan old (replied_second request address lifetime r) t v
  second_replied t request address lifetime (answer.Reply reply) many = many
  second_replied t request address lifetime _ many = tt

  second_transmitted : (t : Timing) (now : ℕ) (r : Answer) → Alone plan old (transmitted_next r) (counted now r t) v
  second_transmitted t now (answer.Transmit message) = let one : 1 ≤ t.many + 1 = omega arith in one
  second_transmitted t now _ = tt

  counted_more : (t : Timing) (now : ℕ) (r : Answer) → 1 ≤ t.many → 1 ≤ (counted now r t).many
  counted_more t now (answer.Transmit message) many = let one : 1 ≤ t.many + 1 = omega arith in one
  counted_more t now _ many = many

  redrawn : (t : Timing) (now : ℕ) (r : Answer) (w : World) (progress : Progress) → DrawsAgain progress → Alone plan old progress t w → Alone plan old (after_draw progress r) (counted now r t) v
  redrawn t now r w (Requested request) again alone = tt
  redrawn t now r w (Challenged request reply head) again alone = tt
  redrawn t now r w Came again alone = second_transmitted t now r
  redrawn t now r w (Signed request) again alone = counted_more t now r alone
  redrawn t now r w (Granted request address lifetime reply head) again alone = counted_more t now r alone
  redrawn t now r w Start again alone = absurd again
  redrawn t now r w (Done request address lifetime reply) again alone = absurd again
  redrawn t now r w Barred again alone = absurd again
  redrawn t now r w Silent again alone = absurd again

-- The rest says nothing of the simulation's state.
stays_by : (plan : Plan) (old w v : World) (t : Timing) (progress : Progress) → ((address : SocketAddr) (lifetime : ℕ) → IsHeldAt plan old address lifetime t w → IsHeldAt plan old address lifetime t v) → Alone plan old progress t w → Alone plan old progress t v
stays_by plan old w v t Start stays alone = tt
stays_by plan old w v t (Requested request) stays alone = tt
stays_by plan old w v t (Challenged request reply head) stays alone = tt
stays_by plan old w v t Came stays alone = tt
stays_by plan old w v t (Signed request) stays alone = alone
stays_by plan old w v t (Granted request address lifetime reply head) stays alone = alone
stays_by plan old w v t (Done request address lifetime reply) stays alone = stays address lifetime alone
stays_by plan old w v t Barred stays alone = tt
stays_by plan old w v t Silent stays alone = tt

module _ (c : goal.After-holders_can_ask) (plan : Plan) (old : World) (may : MayBegin plan old) (tcp : IsOverTcp plan) where
  -- Over TCP a request is transmitted once.
  once : (many : ℕ) → 1 ≤ many → many < count_of plan.client → ⊥
  once many some more = let count : count_of plan.client ≡ 1 = ap (λ (t : TransportType). transmissions (is_tcp t) plan.client.config.waits) tcp.over in omega (arith, some, more, count)

  module _ (w v : World) (reported : List TurnEvent) (t : Timing) (ret : Answer) where
    reach : DoReach
    reach = record { datagram = c.messages_reach_clients.ensures.datagram; chunk = c.messages_reach_clients.ensures.chunk; whole = c.messages_reach_clients.ensures.whole }

    -- ---- the second reply

    module _ (request : Sent) (address : SocketAddr) (lifetime : ℕ) (reply head : List ℕ) (r : IsRepliedSo plan old t request address lifetime reply head w) (many : 1 ≤ t.many) (now : ℕ) where
      by_rest : (next rest : List ℕ) → IsBroughtOn plan.client.transport r.client.core reply next rest now ret w v → Alone plan old (brought_second request address lifetime reply next rest) (arrived now rest t) v
      by_rest next [] h = so r.client.is
        where
          so : IsTransmittedBy plan r.choice t.many t.sent r.client.core → IsHeldAt plan old address lifetime (arrived now [] t) v
          so (Left signed) =
              let held = c.granted_clients_hold.ensures.holds plan.client r.choice t.many t.sent [] r.client.core h.core address lifetime reply now h.handled signed r.is.asks r.is.grant h.processed in
              record { choice = r.choice; chosen = signed.choice; of = r.is.of; left = created plan.client address; client = record { core = h.core; there = h.there; is = held.1 } }
          so (Queues due chosen) = absurd (once t.many many due.0)
      by_rest next (byte ∷ rest) h = many

      gives_second : (rest : List ℕ) (bytes : Vec ℕ Global) → BringsOn plan.client.transport reply head bytes.items rest → now ≤ 2 ^ 62 → IsStep (ToClient bytes request.to request.from now) w ret v
          → Alone plan old (brought_second request address lifetime reply (head ++ bytes.items) rest) (arrived now rest t) v
      gives_second rest bytes on early step =
          by_rest (head ++ bytes.items) rest (brings reach plan.client w v r.client.core reply head rest bytes now ret r.client.there
          (unserved_so plan r.choice t.many t.sent r.client.core r.client.is c.stages_are_unserved.ensures.signing) r.is.message on early
          (subst (λ (x : Sent). IsStep (ToClient bytes x.to x.from now) w ret v) r.is.request_is step))

    -- ---- a look

    held_looks : (what : ClientCall) (now : ℕ) → IsLook what → IsStep (Call what now) w ret v → (address : SocketAddr) (lifetime : ℕ) → IsHeldAt plan old address lifetime t w → IsHeldAt plan old address lifetime t v
    held_looks what now look step address lifetime h = by l.core l.looked l.there
      where
        l : IsLookedOn (control_at plan.client.transport []) h.client.core ret w v
        l = looks (control_at plan.client.transport []) w v h.client.core what now ret h.client.there look step

        by : (q : Protocol) → IsLooked h.client.core ret q → v.client ≡ Some (over (control_at plan.client.transport []) q) → IsHeldAt plan old address lifetime t v
        by q (Took event taken said) there =
            let e = c.stages_are_reported.ensures.held plan.client h.choice address lifetime t.came t.sent [] h.left h.client.core q event h.client.is taken in
            record { choice = h.choice; chosen = h.chosen; of = h.of; left = e.0; client = record { core = q; there = there; is = e.2 } }
        by q (Still same silent) there =
            record { choice = h.choice; chosen = h.chosen; of = h.of; left = h.left; client = record { core = q; there = there; is = subst (λ (p : Protocol). Holds plan.client h.choice address lifetime t.came t.sent [] h.left p) (sym same) h.client.is } }

    -- ---- what has come is requested

    wait : DoWait
    wait = record { waiting = c.messages_reach_clients.ensures.waiting; none_waits = c.messages_reach_clients.ensures.none_waits }

    receives : (now : ℕ) → IsStep (Call call.PollRecv now) w ret v → (progress : Progress) → IsStageOf plan old reported progress t w → Alone plan old progress t w → Alone plan old progress t v
    receives now step Start s alone = tt
    receives now step (Requested request) s alone = tt
    receives now step (Challenged request reply head) s alone = tt
    receives now step Came s alone = tt
    receives now step (Signed request) s alone = alone
    receives now step (Granted request address lifetime reply head) s alone = alone
    receives now step (Done request address lifetime reply) s alone =
        let r = waiting_rests wait plan.client w v s.client.core [] reply now ret s.client.there
        (c.stages_are_unserved.ensures.held plan.client s.choice address lifetime t.came t.sent s.queue s.left s.client.core s.client.is) (none_yet reply s.is.message) step in
        subst (λ (x : World). IsHeldAt plan old address lifetime t x) (sym r.same) alone
    receives now step Barred s alone = tt
    receives now step Silent s alone = tt

    polls : (now : ℕ) (progress : Progress) → MayPoll plan old.desk.auth progress t now → Alone plan old progress t w → Alone plan old progress t v
    polls now Start at alone = tt
    polls now (Requested request) at alone = tt
    polls now (Challenged request reply head) at alone = tt
    polls now Came at alone = tt
    polls now (Signed request) at alone = alone
    polls now (Granted request address lifetime reply head) at alone = alone
    polls now (Done request address lifetime reply) at alone = absurd at
    polls now Barred at alone = tt
    polls now Silent at alone = tt

  -- ---- one event

  module _ (w v : World) (reported : List TurnEvent) (position next : Position) (event : Event) (ret : Answer) (is : IsAtLoop plan old reported position w) (alone : Alone plan old position.progress position.timing w) where
    abbrev t : Timing
    t = position.timing

    abbrev After : Position → Type 0
    After to = Alone plan old to.progress to.timing v

    as_said : (happening : Event) (to : Position) → event ≡ happening → next ≡ to → (IsStep happening w ret v → After to) → IsStep event w ret v → After next
    as_said happening to one two so step = subst After (sym two) (so (subst (λ (e : Event). IsStep e w ret v) one step))

    stage_at : (progress : Progress) → position.progress ≡ progress → IsStageOf plan old reported progress t w
    stage_at progress at = subst (λ (p : Progress). IsStageOf plan old reported p t w) at is.stage

    alone_at : (progress : Progress) → position.progress ≡ progress → Alone plan old progress t w
    alone_at progress at = subst (λ (p : Progress). Alone plan old p t w) at alone

    one : Leads plan old.desk.auth position event ret next → IsStep event w ret v → After next
    one (DrawsFirst at soon is_event to) = as_said _ _ is_event to (λ step. first_transmitted plan old v (record t { many = 1; sent = plan.client.made }) ret)
    one (DrawsOn now again soon is_event to) = as_said _ _ is_event to (λ step. redrawn plan old v t now ret w position.progress again alone)
    one (AsksFirst request bytes now decision seed at same is_event to) = as_said _ _ is_event to (λ step. first_replied plan old v (record t { challenged = now }) request ret)
    one (GivesFirst request reply head rest bytes now at on soon is_event to) = as_said _ _ is_event to (λ step. first_brought plan old v (arrived now rest t) request reply (head ++ bytes.items) rest)
    one (AsksSecond request bytes now address lifetime seed at same in_time asks whole is_event to) = as_said _ _ is_event to (λ step. second_replied plan old v t request address lifetime ret (alone_at (Signed request) at))
    one (GivesSecond request address lifetime reply head rest bytes now at on soon is_event to) = as_said _ _ is_event to (λ step.
        gives_second w v reported t ret request address lifetime reply head (stage_at (Granted request address lifetime reply head) at).1 (alone_at (Granted request address lifetime reply head) at) now rest bytes on soon.in_range step)
    one (Looks what now look soon is_event to) = as_said _ _ is_event to (λ step. stays_by plan old w v t position.progress (held_looks w v reported t ret what now look step) alone)
    one (Receives now soon is_event to) = as_said _ _ is_event to (λ step. receives w v reported t ret now step position.progress is.stage alone)
    one (Polls now at soon is_event to) = as_said _ _ is_event to (λ step. polls w v reported t ret now position.progress at alone)

  -- ---- all of them

  -- A loop with one more event.
  loop_more : (from between to : Position) (before : List (Event × Answer)) (pair : Event × Answer) → IsLoop plan old.desk.auth from before between → Leads plan old.desk.auth between pair.0 pair.1 to → IsLoop plan old.desk.auth from (before ++ pair ∷ []) to
  unfolding IsLoop
  loop_more from between to [] pair is leads = (to, subst (λ (p : Position). Leads plan old.desk.auth p pair.0 pair.1 to) is leads, refl)
  loop_more from between to (x ∷ before) pair is leads = (is.0, is.1, loop_more is.0 between to before pair is.2 leads)

  begin_loop : IsLoop plan old.desk.auth start [] start
  unfolding IsLoop
  begin_loop = refl

  all : (w new : World) (before pairs : List (Event × Answer)) (position last : Position) → IsRun old before w → IsLoop plan old.desk.auth start before position → Alone plan old position.progress position.timing w → IsRun w pairs new → IsLoop plan old.desk.auth position pairs last → Alone plan old last.progress last.timing new
  unfolding IsRun IsLoop
  all w new before [] position last run loop alone more is =
      subst (λ (p : Position). Alone plan old p.progress p.timing new) (sym is) (subst (λ (x : World). Alone plan old position.progress position.timing x) (sym more) alone)
  all w new before (pair ∷ pairs) position last run loop alone more is =
      all more.0 new (before ++ pair ∷ []) pairs is.0 last (run_more old w more.0 before pair run more.1) (loop_more start position is.0 before pair loop is.1)
      (one w more.0 (events_in before) position is.0 pair.0 pair.1 (c.honest_loops_allocate.ensures.occurs plan old w before position may run loop) alone is.1 more.1) more.2 is.2

  -- ---- where it leads

  module _ (target : Target) (new : World) (pairs : List (Event × Answer)) (run : IsRun old pairs new) where
    abbrev link_at : SocketAddr → Link
    link_at local = record { peer = target.peer; number = target.number; local = local; requested = 0; granted = 0; made = 0; first = 0 }

    same_at : (local : SocketAddr) → IsSameDesk (link_at local) old new
    same_at local = run_same (link_at local) old old new pairs run (record { realm = refl; users = refl; algorithms = refl; anonymous = refl; decodes = λ own. own })

    server_so : ReportsOwn old.desk.auth.algorithms old.desk.auth.anonymous_username target.local old.desk.auth → IsSameServer plan target old new
    server_so reports = record {
      realm = (same_at target.local).realm;
      users = (same_at target.local).users;
      algorithms = (same_at target.local).algorithms;
      anonymous = (same_at target.local).anonymous;
      own = (same_at plan.client.here).decodes (λ stored there. absurd (Prim.cc (sym may.unknown ∙ there)));
      other = (same_at target.local).decodes reports;
    }

    holds_so : ReportsOwn old.desk.auth.algorithms old.desk.auth.anonymous_username target.local old.desk.auth → (position : Position) (address : SocketAddr) (lifetime : ℕ) → IsHeldAt plan old address lifetime position.timing new
        → IsAtPosition plan old target address lifetime position.timing.came (holding position) new
    holds_so reports position address lifetime h = record {
      sooner = (let z : 0 ≤ position.last = omega arith in z);
      family = tt;
      stage = record {
        auth = _;
        standing = standing_by plan.client h.choice;
        of = record {
          account = refl;
          realm = h.of.realm;
          reported = h.choice.reported;
          choice = h.choice.algorithm;
          of = h.of;
          answered = record {
            strongest = h.chosen.answered.strongest;
            anonymous = h.chosen.answered.anonymous;
            listed = h.chosen.answered.listed;
          };
        };
        server = server_so reports;
        events = h.left;
        client = record {
          core = h.client.core;
          there = h.client.there;
          is = record {
            is = c.holders_can_ask.ensures.holds plan.client h.choice address lifetime position.timing.came position.timing.sent h.left h.client.core may.room may.text h.chosen tcp.over tcp.relays h.client.is;
            counts = h.client.is.resends;
          };
        };
      };
    }

pub returns : goal.returns
returns c = λ plan old new pairs position request address lifetime reply target may tcp reports run loop done.
    let alone = all c plan old may tcp old new [] pairs start position (begin_run old) (begin_loop c plan old may tcp) tt run loop in
    holds_so c plan old may tcp target new pairs run reports position address lifetime (subst (λ (p : Progress). Alone plan old p position.timing new) done alone)
