use Rattle.std.proofs.Common.{◌≡◌, ◌++◌, ◌+◌, ◌≤◌, ℕ, List, [], ◌∷◌, refl, sym, subst, inl, inr}
use Rattle.std.specs.Prelude.{Vec}
use Rattle.std.specs.declared.alloc.Global.{Global}
use Rattle.std.specs.declared.net.socket_addr.SocketAddr.{SocketAddr}
use Rattle.turn_client_proto_api.specs.declared.event.TurnEvent.{TurnEvent}
use Rattle.turn_client_proto_api.specs.Sent.{Sent}
use Rattle.turn_client_proto_messages.specs.Waiting.{Queued}
use Rattle.turn_client_proto_handshake_laws.specs.Stages.{IsSigning, created, signed_queued}
use Rattle.turn_client_proto_handshake_laws.specs.Driving.{client_end}
use Rattle.turn_client_proto_progress_laws.specs.Speaking.{Speaks}
use Rattle.turn_desk_core.specs.StunProtoServer.Server.{Server}
use Rattle.turn_desk_world_laws.specs.World.Model.{World}
use Rattle.turn_desk_world_laws.specs.World.Runs.{IsRun, IsStep}
use Rattle.turn_desk_event.specs.declared.answer.Answer.{Answer}
use Rattle.turn_desk_event.specs.declared.answer.Answer.TheVariants as answer
use Rattle.turn_desk_event.specs.declared.event.ClientCall.{ClientCall}
use Rattle.turn_desk_event.specs.declared.event.ClientCall.TheVariants as call
use Rattle.turn_desk_event.specs.declared.event.Event.{Event}
use Rattle.turn_desk_event.specs.declared.event.Event.TheVariants.{Call, ToClient}
use Rattle.turn_desk_progress_laws.specs.Loops.{AsksFirst, AsksSecond, DrawsAgain, DrawsFirst, DrawsOn, GivesFirst, GivesSecond, IsLoop, Leads, Looks, MayBegin, MayPoll, Polls, Position, Receives, Timing, after_draw, start, transmitted_next}
use Rattle.turn_desk_progress_laws.specs.LoopStages.{IsAtPosition, IsRepliedSo, IsStageOf, IsTransmittedBy, Left, Queues}
use Rattle.turn_desk_progress_laws.specs.Promises.{HasClient, control_at, events_in}
use Rattle.turn_desk_progress_laws.specs.Scripts.{Barred, BringsOn, Came, Challenged, Done, Granted, IsLook, Plan, Progress, Requested, Signed, Silent, Start, brought_first, brought_second, replied_first, replied_second, transmitted_first}
use Rattle.turn_desk_progress_laws.proofs.Clients.{looks}
use Rattle.turn_desk_progress_laws.proofs.Coming.{IsBroughtOn, IsProcessedOn, brings, none_yet, waiting_rests}
use Rattle.turn_desk_progress_laws.proofs.Calls.{acted_speaks, looked_as}
use Rattle.turn_desk_progress_laws.proofs.Looping.{choice_so, unserved_so}
use Rattle.turn_desk_progress_laws.proofs.Parts.{run_more}
use Rattle.turn_desk_laws.proofs.requests.loops_leave_speakers.Goals as goal

module _ (c : goal.After-holders_speak) (plan : Plan) (old : World) (may : MayBegin plan old) where
  abbrev Speaking : SocketAddr → World → Type 0
  Speaking address w = HasClient plan [] w (λ p. Speaks plan.client old.desk.auth.realm address p)

  -- What holds at each position.
  abbrev Is : Progress → World → Type 0
  Is (Done request address lifetime reply) w = Speaking address w
  Is _ w = Unit {0}

  -- ---- where nothing is held yet

  first_transmitted : (ret : Answer) (v : World) → Is (transmitted_first ret) v
  first_transmitted (answer.Transmit sent) v = tt
  first_transmitted _ v = tt

  first_replied : (request : Sent) (ret : Answer) (v : World) → Is (replied_first request ret) v
  first_replied request (answer.Reply reply) v = tt
  first_replied request _ v = tt

  first_brought : (request : Sent) (reply head rest : List ℕ) (v : World) → Is (brought_first request reply head rest) v
  first_brought request reply head [] v = tt
  first_brought request reply head (byte ∷ rest) v = tt

  next_transmitted : (ret : Answer) (v : World) → Is (transmitted_next ret) v
  next_transmitted (answer.Transmit sent) v = tt
  next_transmitted _ v = tt

  drawn_on : (progress : Progress) (ret : Answer) (v : World) → DrawsAgain progress → Is (after_draw progress ret) v
  drawn_on Start ret v may_draw = absurd may_draw
  drawn_on (Requested request) ret v may_draw = tt
  drawn_on (Challenged request reply head) ret v may_draw = tt
  drawn_on Came ret v may_draw = next_transmitted ret v
  drawn_on (Signed request) ret v may_draw = tt
  drawn_on (Granted request address lifetime reply head) ret v may_draw = tt
  drawn_on (Done request address lifetime reply) ret v may_draw = absurd may_draw
  drawn_on Barred ret v may_draw = absurd may_draw
  drawn_on Silent ret v may_draw = absurd may_draw

  second_replied : (request : Sent) (address : SocketAddr) (lifetime : ℕ) (ret : Answer) (v : World) → Is (replied_second request address lifetime ret) v
  second_replied request address lifetime (answer.Reply reply) v = tt
  second_replied request address lifetime _ v = tt

  polled : (server : Server) (progress : Progress) (t : Timing) (now : ℕ) (v : World) → MayPoll plan server progress t now → Is progress v
  polled server Start t now v may_poll = tt
  polled server (Requested request) t now v may_poll = tt
  polled server (Challenged request reply head) t now v may_poll = tt
  polled server Came t now v may_poll = tt
  polled server (Signed request) t now v may_poll = tt
  polled server (Granted request address lifetime reply head) t now v may_poll = tt
  polled server (Done request address lifetime reply) t now v may_poll = absurd may_poll
  polled server Barred t now v may_poll = absurd may_poll
  polled server Silent t now v may_poll = absurd may_poll

  -- ---- all of the second reply has come

  module _ (w v : World) (ret : Answer) (t : Timing) (request : Sent) (address : SocketAddr) (lifetime : ℕ) (reply head : List ℕ) (is : IsRepliedSo plan old t request address lifetime reply head w) (now : ℕ) where
    processed : (h : IsProcessedOn (control_at plan.client.transport []) is.client.core reply now ret w v) → Speaking address v
    processed h = record { core = h.core; there = h.there; is = speaks }
      where
        by_queue : (used : ℕ) (queue : List Queued) → IsSigning plan.client is.choice used t.sent queue is.client.core → Speaks plan.client is.choice.reported.realm address h.core
        by_queue used queue signing =
            let s = c.granted_clients_hold.ensures.holds plan.client is.choice used t.sent queue is.client.core h.core address lifetime reply now h.handled signing is.is.asks is.is.grant h.processed in
            c.holders_speak.ensures plan.client is.choice address lifetime now t.sent queue (created plan.client address) h.core may.room may.text (choice_so plan is.choice t.many t.sent is.client.core is.client.is) s.1

        by_state : IsTransmittedBy plan is.choice t.many t.sent is.client.core → Speaks plan.client is.choice.reported.realm address h.core
        by_state (Left signed) = by_queue t.many [] signed
        by_state (Queues due chosen) = by_queue (t.many + 1) (signed_queued plan.client is.choice ∷ []) chosen

        speaks : Speaks plan.client old.desk.auth.realm address h.core
        speaks = subst (λ (r : List ℕ). Speaks plan.client r address h.core) is.is.of.realm (by_state is.client.is)

    by_rest : (next rest : List ℕ) → IsBroughtOn plan.client.transport is.client.core reply next rest now ret w v → Is (brought_second request address lifetime reply next rest) v
    by_rest next [] h = processed h
    by_rest next (byte ∷ rest) h = tt

  given : (w v : World) (ret : Answer) (reported : List TurnEvent) (t : Timing) (request : Sent) (address : SocketAddr) (lifetime : ℕ) (reply head rest : List ℕ) (bytes : Vec ℕ Global) (now : ℕ) → now ≤ client_end → IsStageOf plan old reported (Granted request address lifetime reply head) t w
      → BringsOn plan.client.transport reply head bytes.items rest → IsStep (ToClient bytes request.to request.from now) w ret v → Is (brought_second request address lifetime reply (head ++ bytes.items) rest) v
  given w v ret reported t request address lifetime reply head rest bytes now early occurs on step =
      let is = occurs.1 in
      let own = subst (λ (r : Sent). IsStep (ToClient bytes r.to r.from now) w ret v) is.is.request_is step in
      let unserved = unserved_so plan is.choice t.many t.sent is.client.core is.client.is c.stages_are_unserved.ensures.signing in
      by_rest w v ret t request address lifetime reply head is now (head ++ bytes.items) rest
      (brings (record { datagram = c.messages_reach_clients.ensures.datagram; chunk = c.messages_reach_clients.ensures.chunk; whole = c.messages_reach_clients.ensures.whole }) plan.client w v
      is.client.core reply head rest bytes now ret is.client.there unserved is.is.message on early own)

  -- ---- it is looked at

  look_speaks : (address : SocketAddr) (w v : World) (what : ClientCall) (at : ℕ) (ret : Answer) → IsLook what → Speaking address w → IsStep (Call what at) w ret v → Speaking address v
  look_speaks address w v what at ret look is step =
      let l = looks (control_at plan.client.transport []) w v is.core what at ret is.there look step in
      record { core = l.core; there = l.there; is = acted_speaks plan.client old.desk.auth.realm address is.core l.core at is.is (looked_as is.core l.core at ret l.looked) }

  look : (progress : Progress) (w v : World) (what : ClientCall) (at : ℕ) (ret : Answer) → IsLook what → Is progress w → IsStep (Call what at) w ret v → Is progress v
  look (Done request address lifetime reply) w v what at ret looks_so is step = look_speaks address w v what at ret looks_so is step
  look Start w v what at ret looks_so is step = tt
  look (Requested request) w v what at ret looks_so is step = tt
  look (Challenged request reply head) w v what at ret looks_so is step = tt
  look Came w v what at ret looks_so is step = tt
  look (Signed request) w v what at ret looks_so is step = tt
  look (Granted request address lifetime reply head) w v what at ret looks_so is step = tt
  look Barred w v what at ret looks_so is step = tt
  look Silent w v what at ret looks_so is step = tt

  -- `poll_recv` is called: nothing has come.
  none_came : (reported : List TurnEvent) (t : Timing) (request : Sent) (address : SocketAddr) (lifetime : ℕ) (reply : List ℕ) (w v : World) (at : ℕ) (ret : Answer) → IsStageOf plan old reported (Done request address lifetime reply) t w → Speaking address w
      → IsStep (Call call.PollRecv at) w ret v → Speaking address v
  none_came reported t request address lifetime reply w v at ret h is step =
      let no_raw = c.stages_are_unserved.ensures.held plan.client h.choice address lifetime t.came t.sent h.queue h.left h.client.core h.client.is in
      let r = waiting_rests (record { waiting = c.messages_reach_clients.ensures.waiting; none_waits = c.messages_reach_clients.ensures.none_waits }) plan.client w v h.client.core [] reply at ret h.client.there no_raw (none_yet reply h.is.message) step in
      subst (λ (x : World). Speaking address x) (sym r.same) is

  receive : (progress : Progress) (reported : List TurnEvent) (t : Timing) (w v : World) (at : ℕ) (ret : Answer) → IsStageOf plan old reported progress t w → Is progress w → IsStep (Call call.PollRecv at) w ret v → Is progress v
  receive (Done request address lifetime reply) reported t w v at ret occurs is step = none_came reported t request address lifetime reply w v at ret occurs is step
  receive Start reported t w v at ret occurs is step = tt
  receive (Requested request) reported t w v at ret occurs is step = tt
  receive (Challenged request reply head) reported t w v at ret occurs is step = tt
  receive Came reported t w v at ret occurs is step = tt
  receive (Signed request) reported t w v at ret occurs is step = tt
  receive (Granted request address lifetime reply head) reported t w v at ret occurs is step = tt
  receive Barred reported t w v at ret occurs is step = tt
  receive Silent reported t w v at ret occurs is step = tt

  -- ---- one event

  one : (w v : World) (reported : List TurnEvent) (position next : Position) (event : Event) (ret : Answer) → IsAtPosition plan old reported position w → Is position.progress w → Leads plan old.desk.auth position event ret next → IsStep event w ret v → Is next.progress v
  one w v reported position next event ret occurs is (DrawsFirst at in_time happens to) step = subst (λ (x : Position). Is x.progress v) (sym to) (first_transmitted ret v)
  one w v reported position next event ret occurs is (DrawsOn now may_draw in_time happens to) step = subst (λ (x : Position). Is x.progress v) (sym to) (drawn_on position.progress ret v may_draw)
  one w v reported position next event ret occurs is (AsksFirst request bytes now decision seed at same happens to) step = subst (λ (x : Position). Is x.progress v) (sym to) (first_replied request ret v)
  one w v reported position next event ret occurs is (GivesFirst request reply head rest bytes now at on in_time happens to) step = subst (λ (x : Position). Is x.progress v) (sym to) (first_brought request reply (head ++ bytes.items) rest v)
  one w v reported position next event ret occurs is (AsksSecond request bytes now address lifetime seed at same timely asks whole happens to) step =
      subst (λ (x : Position). Is x.progress v) (sym to) (second_replied request address lifetime ret v)
  one w v reported position next event ret occurs is (GivesSecond request address lifetime reply head rest bytes now at on in_time happens to) step =
      subst (λ (x : Position). Is x.progress v) (sym to)
      (given w v ret reported position.timing request address lifetime reply head rest bytes now in_time.in_range (subst (λ (x : Progress). IsStageOf plan old reported x position.timing w) at occurs.stage) on (subst (λ (e : Event). IsStep e w ret v) happens step))
  one w v reported position next event ret occurs is (Looks what now looks_so in_time happens to) step =
      subst (λ (x : Position). Is x.progress v) (sym to) (look position.progress w v what now ret looks_so is (subst (λ (e : Event). IsStep e w ret v) happens step))
  one w v reported position next event ret occurs is (Receives now in_time happens to) step =
      subst (λ (x : Position). Is x.progress v) (sym to) (receive position.progress reported position.timing w v now ret occurs.stage is (subst (λ (e : Event). IsStep e w ret v) happens step))
  one w v reported position next event ret occurs is (Polls now may_poll in_time happens to) step =
      subst (λ (x : Position). Is x.progress v) (sym to) (polled old.desk.auth position.progress position.timing now v may_poll)

  -- ---- all of them

  loop_more : (pairs : List (Event × Answer)) (pair : Event × Answer) (position between next : Position) → IsLoop plan old.desk.auth position pairs between → Leads plan old.desk.auth between pair.0 pair.1 next → IsLoop plan old.desk.auth position (pairs ++ pair ∷ []) next
  unfolding IsLoop
  loop_more [] pair position between next is leads = (next, subst (λ (x : Position). Leads plan old.desk.auth x pair.0 pair.1 next) is leads, refl)
  loop_more (first ∷ pairs) pair position between next is leads = (is.0, is.1, loop_more pairs pair is.0 between next is.2 leads)

  walk : (pairs before : List (Event × Answer)) (w v : World) (position last : Position) → IsRun old before w → IsLoop plan old.desk.auth start before position → Is position.progress w → IsRun w pairs v → IsLoop plan old.desk.auth position pairs last → Is last.progress v
  unfolding IsRun IsLoop
  walk [] before w v position last so_far along is run loop = subst (λ (x : Position). Is x.progress v) (sym loop) (subst (λ (x : World). Is position.progress x) (sym run) is)
  walk (pair ∷ pairs) before w v position last so_far along is run loop =
      let occurs = c.honest_loops_allocate.ensures.occurs plan old w before position may so_far along in
      walk pairs (before ++ pair ∷ []) run.0 v loop.0 last (run_more before pair old w run.0 so_far run.1) (loop_more before pair start position loop.0 along loop.1)
      (one w run.0 (events_in before) position loop.0 pair.0 pair.1 occurs is loop.1 run.1) run.2 loop.2

  begins : IsRun old [] old × IsLoop plan old.desk.auth start [] start
  unfolding IsRun IsLoop
  begins = (refl, refl)

pub returns : goal.returns
returns c = λ plan old one first position signed address lifetime reply may run loop done.
    subst (λ (x : Progress). Is c plan old may x one) done
    (walk c plan old may first [] old one start position (begins c plan old may).0 (begins c plan old may).1 tt run loop)
