use Rattle.std.proofs.Common.{◌++◌, ℕ, List, [], ◌∷◌, refl, sym, subst, inl, inr}
use Rattle.std.specs.Prelude.{Vec}
use Rattle.std.specs.declared.alloc.Global.{Global}
use Rattle.std.specs.declared.net.socket_addr.SocketAddr.{SocketAddr}
use Rattle.turn_client_proto_api.specs.declared.event.TurnEvent.{TurnEvent}
use Rattle.turn_client_proto_api.specs.Sent.{Sent}
use Rattle.turn_client_proto_messages.specs.Waiting.{Queued}
use Rattle.turn_client_proto_handshake_laws.specs.Stages.{IsSigning, created, signed_queued}
use Rattle.turn_client_proto_progress_laws.specs.Speaking.{Speaks}
use Rattle.turn_desk_world_laws.specs.World.Model.{World}
use Rattle.turn_desk_world_laws.specs.World.Runs.{IsRun, IsStep}
use Rattle.turn_desk_event.specs.declared.answer.Answer.{Answer}
use Rattle.turn_desk_event.specs.declared.answer.Answer.TheVariants as answer
use Rattle.turn_desk_event.specs.declared.event.ClientCall.{ClientCall}
use Rattle.turn_desk_event.specs.declared.event.ClientCall.TheVariants as call
use Rattle.turn_desk_event.specs.declared.event.Event.{Event}
use Rattle.turn_desk_event.specs.declared.event.Event.TheVariants.{Call, ToClient}
use Rattle.turn_desk_progress_laws.specs.Promises.{HasClient, IsFresh, control_at, events_in}
use Rattle.turn_desk_progress_laws.specs.Scripts.{AskFirst, AskSecond, Requested, Barred, BringsOn, Came, Challenged, Done, DrawFirst, DrawSecond, DrawsOn, Follows, GiveFirst, GiveSecond, Granted, IsLook, IsPolledAt, IsScript, Looks, Progress, Plan, Polls, Receives, Signed, Silent, Start, brought_first, brought_second, transmitted_first, transmitted_second, replied_first, replied_second}
use Rattle.turn_desk_progress_laws.specs.Standing.{IsHeld, IsReplied, IsAtStage}
use Rattle.turn_desk_progress_laws.proofs.Clients.{looks}
use Rattle.turn_desk_progress_laws.proofs.Coming.{IsBroughtOn, IsProcessedOn, brings, none_yet, waiting_rests}
use Rattle.turn_desk_progress_laws.proofs.Serving.{choice_of, unserved_of}
use Rattle.turn_desk_progress_laws.proofs.Calls.{acted_speaks, looked_as}
use Rattle.turn_desk_progress_laws.proofs.Parts.{run_more, script_more}
use Rattle.turn_desk_progress_laws.proofs.requests.honest_runs_leave_speakers.Goals as goal

module _ (c : goal.After-holders_speak) (plan : Plan) (old : World) (fresh : IsFresh plan old) where
  abbrev Speaking : SocketAddr → World → Type 0
  Speaking address w = HasClient plan [] w (λ p. Speaks plan.client old.desk.auth.realm address p)

  -- What holds at each position.
  abbrev Is : Progress → World → Type 0
  Is (Done request address lifetime reply) w = Speaking address w
  Is _ w = Unit {0}

  -- ---- where nothing is held yet

  first_transmitted : (ret : Answer) (v : World) → Is (transmitted_first ret) v
  first_transmitted (answer.Transmit sent) v = tt
  first_transmitted _ v = tt

  first_replied : (request : Sent) (ret : Answer) (v : World) → Is (replied_first request ret) v
  first_replied request (answer.Reply reply) v = tt
  first_replied request _ v = tt

  first_brought : (request : Sent) (reply head rest : List ℕ) (v : World) → Is (brought_first request reply head rest) v
  first_brought request reply head [] v = tt
  first_brought request reply head (byte ∷ rest) v = tt

  second_transmitted : (ret : Answer) (v : World) → Is (transmitted_second ret) v
  second_transmitted (answer.Transmit sent) v = tt
  second_transmitted _ v = tt

  second_replied : (request : Sent) (address : SocketAddr) (lifetime : ℕ) (ret : Answer) (v : World) → Is (replied_second request address lifetime ret) v
  second_replied request address lifetime (answer.Reply reply) v = tt
  second_replied request address lifetime _ v = tt

  -- ---- all of the second reply has come

  module _ (w v : World) (ret : Answer) (request : Sent) (address : SocketAddr) (lifetime : ℕ) (reply head : List ℕ) (is : IsReplied plan old request address lifetime reply head w) where
    processed : (h : IsProcessedOn (control_at plan.client.transport []) is.client.core reply plan.second ret w v) → Speaking address v
    processed h = record { core = h.core; there = h.there; is = speaks }
      where
        by_queue : (used : ℕ) (queue : List Queued) → IsSigning plan.client is.choice used plan.second queue is.client.core → Speaks plan.client is.choice.reported.realm address h.core
        by_queue used queue signing =
            let s = c.granted_clients_hold.ensures.holds plan.client is.choice used plan.second queue is.client.core h.core address lifetime reply plan.second h.handled signing is.is.asks is.is.grant h.processed in
            c.holders_speak.ensures plan.client is.choice address lifetime plan.second plan.second queue (created plan.client address) h.core fresh.room fresh.text (choice_of plan is.choice is.client.core is.client.is) s.1

        speaks : Speaks plan.client old.desk.auth.realm address h.core
        speaks = subst (λ (r : List ℕ). Speaks plan.client r address h.core) is.is.of.realm (elim is.client.is.is [
          | inl waits ↦ by_queue is.client.is.used (signed_queued plan.client is.choice ∷ []) waits
          | inr sent ↦ by_queue is.client.is.used [] sent
        ])

    by_rest : (next rest : List ℕ) → IsBroughtOn plan.client.transport is.client.core reply next rest plan.second ret w v → Is (brought_second request address lifetime reply next rest) v
    by_rest next [] h = processed h
    by_rest next (byte ∷ rest) h = tt

  given : (w v : World) (ret : Answer) (reported : List TurnEvent) (request : Sent) (address : SocketAddr) (lifetime : ℕ) (reply head rest : List ℕ) (bytes : Vec ℕ Global) → IsAtStage plan old reported (Granted request address lifetime reply head) w
      → BringsOn plan.client.transport reply head bytes.items rest → IsStep (ToClient bytes request.to request.from plan.second) w ret v → Is (brought_second request address lifetime reply (head ++ bytes.items) rest) v
  given w v ret reported request address lifetime reply head rest bytes occurs on step =
      let is = occurs.1 in
      let own = subst (λ (r : Sent). IsStep (ToClient bytes r.to r.from plan.second) w ret v) is.is.request_is step in
      let unserved = unserved_of plan is.choice is.client.core is.client.is c.stages_are_unserved.ensures.signing in
      by_rest w v ret request address lifetime reply head is (head ++ bytes.items) rest
      (brings (record { datagram = c.messages_reach_clients.ensures.datagram; chunk = c.messages_reach_clients.ensures.chunk; whole = c.messages_reach_clients.ensures.whole }) plan.client w v
      is.client.core reply head rest bytes plan.second ret is.client.there unserved is.is.message on fresh.timely.in_range own)

  -- ---- it is looked at

  look_speaks : (address : SocketAddr) (w v : World) (what : ClientCall) (at : ℕ) (ret : Answer) → IsLook what → Speaking address w → IsStep (Call what at) w ret v → Speaking address v
  look_speaks address w v what at ret look is step =
      let l = looks (control_at plan.client.transport []) w v is.core what at ret is.there look step in
      record { core = l.core; there = l.there; is = acted_speaks plan.client old.desk.auth.realm address is.core l.core at is.is (looked_as is.core l.core at ret l.looked) }

  look : (progress : Progress) (w v : World) (what : ClientCall) (at : ℕ) (ret : Answer) → IsLook what → Is progress w → IsStep (Call what at) w ret v → Is progress v
  look (Done request address lifetime reply) w v what at ret looks_so is step = look_speaks address w v what at ret looks_so is step
  look Start w v what at ret looks_so is step = tt
  look (Requested request) w v what at ret looks_so is step = tt
  look (Challenged request reply head) w v what at ret looks_so is step = tt
  look Came w v what at ret looks_so is step = tt
  look (Signed request) w v what at ret looks_so is step = tt
  look (Granted request address lifetime reply head) w v what at ret looks_so is step = tt
  look Barred w v what at ret looks_so is step = tt
  look Silent w v what at ret looks_so is step = tt

  poll : (progress : Progress) (v : World) → IsPolledAt progress → Is progress v
  poll (Done request address lifetime reply) v at = absurd at
  poll Start v at = tt
  poll (Requested request) v at = tt
  poll (Challenged request reply head) v at = tt
  poll Came v at = tt
  poll (Signed request) v at = tt
  poll (Granted request address lifetime reply head) v at = tt
  poll Barred v at = tt
  poll Silent v at = tt

  -- `poll_recv` is called: nothing has come.
  none_came : (address : SocketAddr) (lifetime : ℕ) (request : Sent) (reply : List ℕ) (reported : List TurnEvent) (w v : World) (at : ℕ) (ret : Answer) → IsHeld plan old reported request address lifetime reply w → Speaking address w
      → IsStep (Call call.PollRecv at) w ret v → Speaking address v
  none_came address lifetime request reply reported w v at ret h is step =
      let no_raw = c.stages_are_unserved.ensures.held plan.client h.choice address lifetime plan.second plan.second h.queue h.left h.client.core h.client.is in
      let r = waiting_rests (record { waiting = c.messages_reach_clients.ensures.waiting; none_waits = c.messages_reach_clients.ensures.none_waits }) plan.client w v h.client.core [] reply at ret h.client.there no_raw (none_yet reply h.is.message) step in
      subst (λ (x : World). Speaking address x) (sym r.same) is

  receive : (progress : Progress) (reported : List TurnEvent) (w v : World) (at : ℕ) (ret : Answer) → IsAtStage plan old reported progress w → Is progress w → IsStep (Call call.PollRecv at) w ret v → Is progress v
  receive (Done request address lifetime reply) reported w v at ret occurs is step = none_came address lifetime request reply reported w v at ret occurs is step
  receive Start reported w v at ret occurs is step = tt
  receive (Requested request) reported w v at ret occurs is step = tt
  receive (Challenged request reply head) reported w v at ret occurs is step = tt
  receive Came reported w v at ret occurs is step = tt
  receive (Signed request) reported w v at ret occurs is step = tt
  receive (Granted request address lifetime reply head) reported w v at ret occurs is step = tt
  receive Barred reported w v at ret occurs is step = tt
  receive Silent reported w v at ret occurs is step = tt

  -- ---- one event

  one : (w v : World) (reported : List TurnEvent) (progress next : Progress) (event : Event) (ret : Answer) → IsAtStage plan old reported progress w → Is progress w → Follows plan progress event ret next → IsStep event w ret v → Is next v
  one w v reported progress next event ret occurs is (DrawFirst at happens to) step = subst (λ (x : Progress). Is x v) (sym to) (first_transmitted ret v)
  one w v reported progress next event ret occurs is (AskFirst request bytes decision seed at same happens to) step = subst (λ (x : Progress). Is x v) (sym to) (first_replied request ret v)
  one w v reported progress next event ret occurs is (GiveFirst request reply head rest bytes at on happens to) step = subst (λ (x : Progress). Is x v) (sym to) (first_brought request reply (head ++ bytes.items) rest v)
  one w v reported progress next event ret occurs is (DrawSecond at happens to) step = subst (λ (x : Progress). Is x v) (sym to) (second_transmitted ret v)
  one w v reported progress next event ret occurs is (AskSecond request bytes address lifetime seed at same asks whole happens to) step = subst (λ (x : Progress). Is x v) (sym to) (second_replied request address lifetime ret v)
  one w v reported progress next event ret occurs is (GiveSecond request address lifetime reply head rest bytes at on happens to) step =
      subst (λ (x : Progress). Is x v) (sym to)
      (given w v ret reported request address lifetime reply head rest bytes (subst (λ (x : Progress). IsAtStage plan old reported x w) at occurs) on (subst (λ (e : Event). IsStep e w ret v) happens step))
  one w v reported progress next event ret occurs is (Looks what now looks_so happens to) step =
      subst (λ (x : Progress). Is x v) (sym to) (look progress w v what now ret looks_so is (subst (λ (e : Event). IsStep e w ret v) happens step))
  one w v reported progress next event ret occurs is (Polls now at before happens to) step = subst (λ (x : Progress). Is x v) (sym to) (poll progress v at)
  one w v reported progress next event ret occurs is (Receives now happens to) step =
      subst (λ (x : Progress). Is x v) (sym to) (receive progress reported w v now ret occurs is (subst (λ (e : Event). IsStep e w ret v) happens step))
  one w v reported progress next event ret occurs is (DrawsOn now at happens to) step = subst (λ (x : Progress). Is x v) (sym to) tt

  -- ---- all of them

  walk : (pairs before : List (Event × Answer)) (w v : World) (progress last : Progress) → IsRun old before w → IsScript plan Start before progress → Is progress w → IsRun w pairs v → IsScript plan progress pairs last → Is last v
  unfolding IsRun IsScript
  walk [] before w v progress last so_far along is run script = subst (λ (x : Progress). Is x v) (sym script) (subst (λ (x : World). Is progress x) (sym run) is)
  walk (pair ∷ pairs) before w v progress last so_far along is run script =
      let occurs = c.honest_runs_allocate.ensures.occurs plan old w before progress fresh so_far along in
      walk pairs (before ++ pair ∷ []) run.0 v script.0 last (run_more before pair old w run.0 so_far run.1) (script_more plan before pair Start progress script.0 along script.1)
      (one w run.0 (events_in before) progress script.0 pair.0 pair.1 occurs is script.1 run.1) run.2 script.2

  begins : IsRun old [] old × IsScript plan Start [] Start
  unfolding IsRun IsScript
  begins = (refl, refl)

pub returns : goal.returns
returns c = λ plan old one first signed address lifetime reply fresh run script.
    walk c plan old fresh first [] old one Start (Done signed address lifetime reply) (begins c plan old fresh).0 (begins c plan old fresh).1 tt run script
