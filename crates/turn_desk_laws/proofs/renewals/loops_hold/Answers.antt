use Rattle.std.proofs.Common.{◌≡◌, ◌≤◌, ◌<◌, ◌++◌, ◌+◌, ◌^◌, ℕ, List, [], ◌∷◌, ap, refl, sym, ◌∙◌, subst, inl, inr, append_assoc, true}
use Rattle.std.proofs.lemmas.List.{append-nil}
use Rattle.std.specs.declared.net.socket_addr.SocketAddr.{SocketAddr}
use Rattle.turn_client_proto_api.specs.declared.event.TurnEvent.{TurnEvent}
use Rattle.turn_client_proto_api.specs.Sent.{Sent}
use Rattle.turn_client_proto_messages.specs.Waiting.{Queued}
use Rattle.turn_client_proto_step_laws.specs.Recv.ClientState.{Protocol}
use Rattle.turn_client_proto_handshake_laws.specs.Choosing.{signed_request}
use Rattle.turn_client_proto_handshake_laws.specs.Driving.{client_end}
use Rattle.turn_client_proto_handshake_laws.specs.Stages.{Holds, IsSigning, created, signed_queued}
use Rattle.turn_desk_event.specs.declared.answer.Answer.{Answer}
use Rattle.turn_desk_event.specs.declared.answer.Answer.TheVariants as answer
use Rattle.turn_desk_event.specs.declared.event.ClientCall.{ClientCall}
use Rattle.turn_desk_event.specs.declared.event.ClientCall.TheVariants as call
use Rattle.turn_desk_event.specs.declared.event.Event.{Event}
use Rattle.turn_desk_event.specs.declared.event.Event.TheVariants.{Call, ToClient}
use Rattle.turn_desk_world_laws.specs.World.Model.{World}
use Rattle.turn_desk_world_laws.specs.World.Runs.{IsRun, IsStep}
use Rattle.turn_desk_progress_laws.specs.Loops.{AsksFirst, AsksSecond, DrawsAgain, DrawsFirst, DrawsOn, GivesFirst, GivesSecond, IsLoop, Leads, Looks, MayBegin, MayPoll, Polls, Position, Receives, Timing, after_draw, arrived, start, transmitted_next}
use Rattle.turn_desk_progress_laws.specs.LoopStages.{IsAtPosition, IsRepliedSo, IsStageOf, IsTransmittedBy, Left, Queues}
use Rattle.turn_desk_progress_laws.specs.Promises.{control_at, event_in, events_in}
use Rattle.turn_desk_progress_laws.specs.Scripts.{Requested, Barred, Came, Challenged, Done, Granted, IsLook, Progress, Plan, Signed, Silent, Start, brought_first, brought_second, replied_first, replied_second, transmitted_first}
use Rattle.turn_desk_progress_laws.proofs.Clients.{IsLooked, IsLookedOn, Still, Took, looks, same_desk}
use Rattle.turn_desk_progress_laws.proofs.Coming.{IsBroughtOn, IsProcessedOn, brings, none_yet, waiting_rests}
use Rattle.turn_desk_progress_laws.proofs.Indexes.{reports_on, reports_still, untold}
use Rattle.turn_desk_progress_laws.proofs.Looping.{choice_so, itself, unserved_so}
use Rattle.turn_desk_laws.specs.RenewalStages.{IsHoldingSo, IsSecondLeft, KeepsSettings}
use Rattle.turn_desk_laws.proofs.RenewalWorlds.{keeps_first, keeps_on, keeps_so}
use Rattle.turn_desk_laws.proofs.renewals.loops_hold.Goals as goal

module _ (c : goal.After-signed_allocates_answer) (plan : Plan) (old : World) (may : MayBegin plan old) where
  -- What more is known at a position.
  abbrev More : List TurnEvent → Progress → Timing → World → Type 0
  More reported (Granted request address lifetime reply head) t w = lifetime < 2 ^ 32
  More reported (Done request address lifetime reply) t w = IsHoldingSo plan old reported t request address lifetime w
  More reported _ t w = Unit {0}

  -- ---- all of the second reply has come

  module _ (w v : World) (reported : List TurnEvent) (none : reported ≡ []) (t : Timing) (request : Sent) (address : SocketAddr) (lifetime : ℕ) (fits : lifetime < 2 ^ 32) (reply head : List ℕ) (is : IsRepliedSo plan old t request address lifetime reply head w) (now : ℕ) (early : now ≤ client_end) (ret : Answer)
      (keeps : KeepsSettings plan old v.desk) where
    module _ (h : IsProcessedOn (control_at plan.client.transport []) is.client.core reply now ret w v) where
      holds : (used : ℕ) (queue : List Queued) → IsSecondLeft plan is.choice request true queue → IsSigning plan.client is.choice used t.sent queue is.client.core → IsHoldingSo plan old (reported ++ event_in ret) (arrived now [] t) request address lifetime v
      holds used queue left signing =
          let s = c.granted_clients_hold.ensures.holds plan.client is.choice used t.sent queue is.client.core h.core address lifetime reply now h.handled signing is.is.asks is.is.grant h.processed in
          record {
            choice = is.choice;
            signs = record { agreed = record { chosen = choice_so plan is.choice t.many t.sent is.client.core is.client.is; answered = is.is.answered; of = is.is.of }; keeps = keeps };
            early = early;
            fits = fits;
            queue = queue;
            left = left;
            events = created plan.client address;
            decodes = ap (λ (l : List TurnEvent). l ++ created plan.client address) (untold reported (event_in ret) none h.silent_is);
            client = record { core = h.core; there = h.there; is = s.1 };
          }

      done : IsTransmittedBy plan is.choice t.many t.sent is.client.core → IsHoldingSo plan old (reported ++ event_in ret) (arrived now [] t) request address lifetime v
      done (Left signed) = holds t.many [] (inl refl) signed
      done (Queues due chosen) = holds (t.many + 1) (signed_queued plan.client is.choice ∷ []) (inr (refl, refl, is.is.request_is)) chosen

    pub gives_second : (next rest : List ℕ) → IsBroughtOn plan.client.transport is.client.core reply next rest now ret w v → More (reported ++ event_in ret) (brought_second request address lifetime reply next rest) (arrived now rest t) v
    gives_second next [] h = done h is.client.is
    gives_second next (byte ∷ rest) h = fits

  -- ---- the client holds the allocation

  module _ (w v : World) (reported : List TurnEvent) (t : Timing) (request : Sent) (address : SocketAddr) (lifetime : ℕ) (is : IsHoldingSo plan old reported t request address lifetime w) (ret : Answer) where
    module _ (what : ClientCall) (now : ℕ) (look : IsLook what) (step : IsStep (Call what now) w ret v) where
      holding_looks : IsHoldingSo plan old (reported ++ event_in ret) t request address lifetime v
      holding_looks = let l = looks (control_at plan.client.transport []) w v is.client.core what now ret is.client.there look step in by l l.looked
        where
          by : (l : IsLookedOn (control_at plan.client.transport []) is.client.core ret w v) → IsLooked is.client.core ret l.core → IsHoldingSo plan old (reported ++ event_in ret) t request address lifetime v
          by l (Took event taken said) =
              let e = c.stages_are_reported.ensures.held plan.client is.choice address lifetime t.came t.sent is.queue is.events is.client.core l.core event is.client.is taken in
              record {
                choice = is.choice;
                signs = keeps_so plan old is.choice w.desk v.desk (same_desk w v l.of) is.signs;
                early = is.early;
                fits = is.fits;
                queue = is.queue;
                left = is.left;
                events = e.0;
                decodes = reports_on reported ret event is.events e.0 said e.1 ∙ is.decodes;
                client = record { core = l.core; there = l.there; is = e.2 };
              }
          by l (Still same silent) = record {
            choice = is.choice;
            signs = keeps_so plan old is.choice w.desk v.desk (same_desk w v l.of) is.signs;
            early = is.early;
            fits = is.fits;
            queue = is.queue;
            left = is.left;
            events = is.events;
            decodes = reports_still reported ret is.events silent ∙ is.decodes;
            client = record {
              core = l.core;
              there = l.there;
              is = subst (λ (q : Protocol). Holds plan.client is.choice address lifetime t.came t.sent is.queue is.events q) (sym same) is.client.is;
            };
          }

    holding_receives : (now : ℕ) → IsStep (Call call.PollRecv now) w ret v → IsHoldingSo plan old (reported ++ event_in ret) t request address lifetime v
    holding_receives now step =
        let message = (c.signed_allocates_answer.ensures.request plan.client is.choice may.room may.text is.signs.agreed.chosen).message in
        let none_raw = c.stages_are_unserved.ensures.held plan.client is.choice address lifetime t.came t.sent is.queue is.events is.client.core is.client.is in
        let r = waiting_rests (record { waiting = c.messages_reach_clients.ensures.waiting; none_waits = c.messages_reach_clients.ensures.none_waits }) plan.client w v is.client.core []
        (signed_request plan.client is.choice) now ret is.client.there none_raw (none_yet (signed_request plan.client is.choice) message) step in
        subst (λ (l : List TurnEvent). IsHoldingSo plan old l t request address lifetime v) (sym (ap (λ (e : List TurnEvent). reported ++ e) r.silent ∙ append-nil reported))
        (subst (λ (x : World). IsHoldingSo plan old reported t request address lifetime x) (sym r.same) is)

  -- ---- one event

  module _ (w v : World) (reported : List TurnEvent) (position next : Position) (event : Event) (ret : Answer) (is : IsAtPosition plan old reported position w) (keeps : KeepsSettings plan old v.desk) where
    abbrev t : Timing
    t = position.timing

    -- What more is known after it.
    abbrev Now : Progress → Timing → Type 0
    Now to timing = More (reported ++ event_in ret) to timing v

    goes_to : (to : Position) → next ≡ to → Now to.progress to.timing → Now next.progress next.timing
    goes_to to same now = subst (λ (n : Position). Now n.progress n.timing) (sym same) now

    nothing_first : (timing : Timing) (a : Answer) → Now (transmitted_first a) timing
    nothing_first timing (answer.Transmit sent) = tt
    nothing_first timing _ = tt

    nothing_next : (timing : Timing) (a : Answer) → Now (transmitted_next a) timing
    nothing_next timing (answer.Transmit sent) = tt
    nothing_next timing _ = tt

    nothing_replied : (timing : Timing) (request : Sent) (a : Answer) → Now (replied_first request a) timing
    nothing_replied timing request (answer.Reply reply) = tt
    nothing_replied timing request _ = tt

    nothing_brought : (timing : Timing) (request : Sent) (reply head rest : List ℕ) → Now (brought_first request reply head rest) timing
    nothing_brought timing request reply head [] = tt
    nothing_brought timing request reply head (byte ∷ rest) = tt

    fits_second : (timing : Timing) (request : Sent) (address : SocketAddr) (lifetime : ℕ) (a : Answer) → lifetime < 2 ^ 32 → Now (replied_second request address lifetime a) timing
    fits_second timing request address lifetime (answer.Reply reply) fits = fits
    fits_second timing request address lifetime _ fits = tt

    redrawn : (from : Progress) (timing : Timing) → DrawsAgain from → More reported from t w → Now (after_draw from ret) timing
    redrawn (Requested request) timing again more = tt
    redrawn (Challenged request reply head) timing again more = tt
    redrawn Came timing again more = nothing_next timing ret
    redrawn (Signed request) timing again more = tt
    redrawn (Granted request address lifetime reply head) timing again more = more
    redrawn Start timing again more = absurd again
    redrawn (Done request address lifetime reply) timing again more = absurd again
    redrawn Barred timing again more = absurd again
    redrawn Silent timing again more = absurd again

    looked : (from : Progress) (what : ClientCall) (now : ℕ) → IsLook what → IsStep (Call what now) w ret v → More reported from t w → Now from t
    looked (Granted request address lifetime reply head) what now look step more = more
    looked (Done request address lifetime reply) what now look step more = holding_looks w v reported t request address lifetime more ret what now look step
    looked Start what now look step more = tt
    looked (Requested request) what now look step more = tt
    looked (Challenged request reply head) what now look step more = tt
    looked Came what now look step more = tt
    looked (Signed request) what now look step more = tt
    looked Barred what now look step more = tt
    looked Silent what now look step more = tt

    received : (from : Progress) (now : ℕ) → IsStep (Call call.PollRecv now) w ret v → More reported from t w → Now from t
    received (Granted request address lifetime reply head) now step more = more
    received (Done request address lifetime reply) now step more = holding_receives w v reported t request address lifetime more ret now step
    received Start now step more = tt
    received (Requested request) now step more = tt
    received (Challenged request reply head) now step more = tt
    received Came now step more = tt
    received (Signed request) now step more = tt
    received Barred now step more = tt
    received Silent now step more = tt

    polled : (from : Progress) (now : ℕ) → MayPoll plan old.desk.auth from t now → More reported from t w → Now from t
    polled (Granted request address lifetime reply head) now at more = more
    polled (Done request address lifetime reply) now at more = absurd at
    polled Start now at more = tt
    polled (Requested request) now at more = tt
    polled (Challenged request reply head) now at more = tt
    polled Came now at more = tt
    polled (Signed request) now at more = tt
    polled Barred now at more = tt
    polled Silent now at more = tt

    stage_at : (progress : Progress) → position.progress ≡ progress → IsStageOf plan old reported progress t w
    stage_at progress at = subst (λ (p : Progress). IsStageOf plan old reported p t w) at is.stage

    given : (request : Sent) (address : SocketAddr) (lifetime : ℕ) (reply head rest bytes : List ℕ) (now : ℕ) → now ≤ client_end → IsStageOf plan old reported (Granted request address lifetime reply head) t w → lifetime < 2 ^ 32
        → ((x : IsRepliedSo plan old t request address lifetime reply head w) → IsBroughtOn plan.client.transport x.client.core reply (head ++ bytes) rest now ret w v)
        → Now (brought_second request address lifetime reply (head ++ bytes) rest) (arrived now rest t)
    given request address lifetime reply head rest bytes now early stage fits brought =
        gives_second w v reported stage.0 t request address lifetime fits reply head stage.1 now early ret keeps (head ++ bytes) rest (brought stage.1)

    more_on : Leads plan old.desk.auth position event ret next → More reported position.progress t w → IsStep event w ret v → Now next.progress next.timing
    more_on (DrawsFirst at soon is_event to) more step = goes_to _ to (nothing_first _ ret)
    more_on (DrawsOn now again soon is_event to) more step = goes_to _ to (redrawn position.progress _ again more)
    more_on (AsksFirst request bytes now decision seed at same is_event to) more step = goes_to _ to (nothing_replied _ request ret)
    more_on (GivesFirst request reply head rest bytes now at on soon is_event to) more step = goes_to _ to (nothing_brought _ request reply (head ++ bytes.items) rest)
    more_on (AsksSecond request bytes now address lifetime seed at same in_time asks whole is_event to) more step =
        let here = subst (λ (e : Event). IsStep e w ret v) is_event step in
        goes_to _ to (fits_second _ request address lifetime ret here.0.four_bytes)
    more_on (GivesSecond request address lifetime reply head rest bytes now at on soon is_event to) more step =
        let here = subst (λ (e : Event). IsStep e w ret v) is_event step in
        let fits : lifetime < 2 ^ 32 = subst (λ (p : Progress). More reported p t w) at more in
        goes_to _ to (given request address lifetime reply head rest bytes.items now soon.in_range (stage_at (Granted request address lifetime reply head) at) fits (λ x.
        let own = subst (λ (r : Sent). IsStep (ToClient bytes r.to r.from now) w ret v) x.is.request_is here in
        let unserved = unserved_so plan x.choice t.many t.sent x.client.core x.client.is c.stages_are_unserved.ensures.signing in
        brings (record { datagram = c.messages_reach_clients.ensures.datagram; chunk = c.messages_reach_clients.ensures.chunk; whole = c.messages_reach_clients.ensures.whole }) plan.client w v
        x.client.core reply head rest bytes now ret x.client.there unserved x.is.message on soon.in_range own))
    more_on (Looks what now look soon is_event to) more step = goes_to _ to (looked position.progress what now look (subst (λ (e : Event). IsStep e w ret v) is_event step) more)
    more_on (Receives now soon is_event to) more step = goes_to _ to (received position.progress now (subst (λ (e : Event). IsStep e w ret v) is_event step) more)
    more_on (Polls now at soon is_event to) more step = goes_to _ to (polled position.progress now at more)

  -- ---- all of them

  all : (w new : World) (reported : List TurnEvent) (position last : Position) (pairs : List (Event × Answer)) → IsAtPosition plan old reported position w → KeepsSettings plan old w.desk → More reported position.progress position.timing w
      → IsRun w pairs new → IsLoop plan old.desk.auth position pairs last → More (reported ++ events_in pairs) last.progress last.timing new
  unfolding IsRun IsLoop
  all w new reported position last [] occurs keeps more run is =
      subst (λ (l : List TurnEvent). More l last.progress last.timing new) (sym (append-nil reported))
      (subst (λ (p : Position). More reported p.progress p.timing new) (sym is) (subst (λ (x : World). More reported position.progress position.timing x) (sym run) more))
  all w new reported position last (pair ∷ pairs) occurs keeps more run is =
      let following = c.events_of_loops_lead_on.ensures plan old w run.0 reported position is.0 pair.0 pair.1 may is.1 occurs run.1 in
      let still = keeps_on plan old may pair.0 w run.0 pair.1 run.1 keeps in
      let then_more = more_on w run.0 reported position is.0 pair.0 pair.1 occurs still is.1 more run.1 in
      subst (λ (l : List TurnEvent). More l last.progress last.timing new) (append_assoc reported (event_in pair.1) (events_in pairs))
      (all run.0 new (reported ++ event_in pair.1) is.0 last pairs following.0 still then_more run.2 is.2)

  pub held : (new : World) (pairs : List (Event × Answer)) (position : Position) (request : Sent) (address : SocketAddr) (lifetime : ℕ) (reply : List ℕ) → IsRun old pairs new → IsLoop plan old.desk.auth start pairs position → position.progress ≡ Done request address lifetime reply
      → IsHoldingSo plan old (events_in pairs) position.timing request address lifetime new
  held new pairs position request address lifetime reply run is at =
      subst (λ (p : Progress). More (events_in pairs) p position.timing new) at
      (all old new [] start position pairs (record { sent_before = itself 0; stage = (refl, record { client = may.client; desk_is = refl }) }) (keeps_first plan old may) tt run is)

pub returns : goal.returns
returns c = λ plan old new pairs position request address lifetime reply may run is at. held c plan old may new pairs position request address lifetime reply run is at
