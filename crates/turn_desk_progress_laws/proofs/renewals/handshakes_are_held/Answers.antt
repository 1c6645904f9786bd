use Rattle.std.proofs.Common.{◌≡◌, ◌++◌, ◌<◌, ◌^◌, ℕ, List, [], ◌∷◌, ap, refl, sym, ◌∙◌, subst, inl, inr, append_assoc}
use Rattle.std.proofs.lemmas.List.{append-nil}
use Rattle.std.specs.declared.net.socket_addr.SocketAddr.{SocketAddr}
use Rattle.turn_client_proto_api.specs.declared.event.TurnEvent.{TurnEvent}
use Rattle.turn_client_proto_handshake_laws.specs.Choosing.{signed_request}
use Rattle.turn_client_proto_api.specs.Sent.{Sent}
use Rattle.turn_client_proto_messages.specs.Waiting.{Queued}
use Rattle.turn_client_proto_handshake_laws.specs.Stages.{Holds, IsSigning, created, signed_queued}
use Rattle.turn_client_proto_step_laws.specs.Recv.ClientState.{Protocol}
use Rattle.turn_desk_event.specs.declared.answer.Answer.{Answer}
use Rattle.turn_desk_event.specs.declared.answer.Answer.TheVariants as answer
use Rattle.turn_desk_event.specs.declared.event.ClientCall.{ClientCall}
use Rattle.turn_desk_event.specs.declared.event.ClientCall.TheVariants as call
use Rattle.turn_desk_event.specs.declared.event.Event.{Event}
use Rattle.turn_desk_event.specs.declared.event.Event.TheVariants.{Call, ToClient}
use Rattle.turn_desk_world_laws.specs.World.Model.{World}
use Rattle.turn_desk_world_laws.specs.World.Runs.{IsRun, IsStep}
use Rattle.turn_desk_progress_laws.specs.Promises.{IsFresh, control_at, event_in, events_in}
use Rattle.turn_desk_progress_laws.specs.Scripts.{AskFirst, AskSecond, Requested, Barred, Came, Challenged, Done, DrawFirst, DrawSecond, DrawsOn, Follows, GiveFirst, GiveSecond, Granted, IsLook, IsPolledAt, IsScript, Looks, Progress, Plan, Polls, Receives, Signed, Silent, Start, brought_first, brought_second, transmitted_first, transmitted_second, replied_first, replied_second}
use Rattle.turn_desk_progress_laws.specs.Standing.{IsReplied, IsAtStage}
use Rattle.turn_desk_progress_laws.proofs.Clients.{IsLooked, IsLookedOn, Still, Took, looks}
use Rattle.turn_desk_progress_laws.proofs.Coming.{IsBroughtOn, IsProcessedOn, brings, none_yet, waiting_rests}
use Rattle.turn_desk_progress_laws.proofs.Indexes.{reports_on, reports_still, untold}
use Rattle.turn_desk_progress_laws.proofs.Serving.{choice_of, unserved_of}
use Rattle.turn_desk_progress_laws.specs.Watched.{IsHolding, IsLeft, IsServing}
use Rattle.turn_desk_progress_laws.proofs.RenewalServing.{serves}
use Rattle.turn_desk_progress_laws.proofs.renewals.handshakes_are_held.Goals as goal

module _ (c : goal.After-signed_allocates_answer) (plan : Plan) (old : World) (fresh : IsFresh plan old) where
  -- What more is known at a position.
  abbrev More : List TurnEvent → Progress → World → Type 0
  More reported (Granted request address lifetime reply head) w = lifetime < 2 ^ 32
  More reported (Done request address lifetime reply) w = IsHolding plan old reported address lifetime w
  More reported _ w = Unit {0}

  -- ---- all of the second reply has come

  module _ (w v : World) (reported : List TurnEvent) (none : reported ≡ []) (request : Sent) (address : SocketAddr) (lifetime : ℕ) (fits : lifetime < 2 ^ 32) (reply head : List ℕ) (is : IsReplied plan old request address lifetime reply head w) (ret : Answer)
      (serving : IsServing plan old.desk v.desk) where
    module _ (h : IsProcessedOn (control_at plan.client.transport []) is.client.core reply plan.second ret w v) where
      holds : (used : ℕ) (queue : List Queued) → IsLeft plan is.choice queue → IsSigning plan.client is.choice used plan.second queue is.client.core → IsHolding plan old (reported ++ event_in ret) address lifetime v
      holds used queue left signing =
          let s = c.granted_clients_hold.ensures.holds plan.client is.choice used plan.second queue is.client.core h.core address lifetime reply plan.second h.handled signing is.is.asks is.is.grant h.processed in
          record {
            choice = is.choice;
            agreed = record { chosen = choice_of plan is.choice is.client.core is.client.is; answered = is.is.answered; of = is.is.of };
            serving = serving;
            fits = fits;
            queue = queue;
            left = left;
            events = created plan.client address;
            decodes = ap (λ (l : List TurnEvent). l ++ created plan.client address) (untold reported (event_in ret) none h.silent_is);
            client = record { core = h.core; there = h.there; is = s.1 };
          }

      done : IsHolding plan old (reported ++ event_in ret) address lifetime v
      done = elim is.client.is.is [
        | inl x ↦ holds is.client.is.used (signed_queued plan.client is.choice ∷ []) (inr refl) x
        | inr x ↦ holds is.client.is.used [] (inl refl) x
      ]

    by_rest : (next rest : List ℕ) → IsBroughtOn plan.client.transport is.client.core reply next rest plan.second ret w v → More (reported ++ event_in ret) (brought_second request address lifetime reply next rest) v
    by_rest next [] h = done h
    by_rest next (byte ∷ rest) h = fits

    pub gives_second : (rest bytes : List ℕ) → IsBroughtOn plan.client.transport is.client.core reply (head ++ bytes) rest plan.second ret w v
        → More (reported ++ event_in ret) (brought_second request address lifetime reply (head ++ bytes) rest) v
    gives_second rest bytes h = by_rest (head ++ bytes) rest h

  -- ---- the client holds the allocation

  module _ (w v : World) (reported : List TurnEvent) (address : SocketAddr) (lifetime : ℕ) (is : IsHolding plan old reported address lifetime w) (ret : Answer) where
    module _ (what : ClientCall) (now : ℕ) (look : IsLook what) (step : IsStep (Call what now) w ret v) where
      holding_looks : IsHolding plan old (reported ++ event_in ret) address lifetime v
      holding_looks = let l = looks (control_at plan.client.transport []) w v is.client.core what now ret is.client.there look step in by l l.looked
        where
          by : (l : IsLookedOn (control_at plan.client.transport []) is.client.core ret w v) → IsLooked is.client.core ret l.core → IsHolding plan old (reported ++ event_in ret) address lifetime v
          by l (Took event taken said) =
              let e = c.stages_are_reported.ensures.held plan.client is.choice address lifetime plan.second plan.second is.queue is.events is.client.core l.core event is.client.is taken in
              record {
                choice = is.choice;
                agreed = is.agreed;
                serving = serves plan old.desk (Call what now) w v ret step is.serving;
                fits = is.fits;
                queue = is.queue;
                left = is.left;
                events = e.0;
                decodes = reports_on reported ret event is.events e.0 said e.1 ∙ is.decodes;
                client = record { core = l.core; there = l.there; is = e.2 };
              }
          by l (Still same silent) = record {
            choice = is.choice;
            agreed = is.agreed;
            serving = serves plan old.desk (Call what now) w v ret step is.serving;
            fits = is.fits;
            queue = is.queue;
            left = is.left;
            events = is.events;
            decodes = reports_still reported ret is.events silent ∙ is.decodes;
            client = record {
              core = l.core;
              there = l.there;
              is = subst (λ (q : Protocol). Holds plan.client is.choice address lifetime plan.second plan.second is.queue is.events q) (sym same) is.client.is;
            };
          }

    holding_receives : (now : ℕ) → IsStep (Call call.PollRecv now) w ret v → IsHolding plan old (reported ++ event_in ret) address lifetime v
    holding_receives now step =
        let message = (c.signed_allocates_answer.ensures.request plan.client is.choice fresh.room fresh.text is.agreed.chosen).message in
        let none_raw = c.stages_are_unserved.ensures.held plan.client is.choice address lifetime plan.second plan.second is.queue is.events is.client.core is.client.is in
        let r = waiting_rests (record { waiting = c.messages_reach_clients.ensures.waiting; none_waits = c.messages_reach_clients.ensures.none_waits }) plan.client w v is.client.core []
        (signed_request plan.client is.choice) now ret is.client.there none_raw (none_yet (signed_request plan.client is.choice) message) step in
        subst (λ (l : List TurnEvent). IsHolding plan old l address lifetime v) (sym (ap (λ (e : List TurnEvent). reported ++ e) r.silent ∙ append-nil reported))
        (subst (λ (x : World). IsHolding plan old reported address lifetime x) (sym r.same) is)

  -- ---- one event

  module _ (w v : World) (reported : List TurnEvent) (progress next : Progress) (event : Event) (ret : Answer) where
    abbrev At : Progress → Event → Progress → Type 0
    At from happening to = IsAtStage plan old reported from w → IsStep happening w ret v → IsAtStage plan old (reported ++ event_in ret) to v

    as_said : (from : Progress) (happening : Event) (to : Progress) → progress ≡ from → event ≡ happening → next ≡ to → At from happening to → At progress event next
    as_said from happening to one two three is = λ occurs step.
        subst (λ (n : Progress). IsAtStage plan old (reported ++ event_in ret) n v) (sym three)
        (is (subst (λ (p : Progress). IsAtStage plan old reported p w) one occurs) (subst (λ (e : Event). IsStep e w ret v) two step))

    is_active_on : Follows plan progress event ret next → At progress event next
    is_active_on (DrawFirst at is to) = as_said _ _ _ at is to (λ occurs step. c.first_requests_are_transmitted.ensures plan old w v reported ret fresh occurs step)
    is_active_on (AskFirst request bytes decision seed at same is to) =
        as_said _ _ _ at is to (λ occurs step. c.first_requests_are_challenged.ensures plan old w v reported ret request bytes decision seed fresh occurs same step)
    is_active_on (GiveFirst request reply head rest bytes at on is to) =
        as_said _ _ _ at is to (λ occurs step. c.first_replies_are_taken.ensures plan old w v reported ret request reply head rest bytes fresh occurs on step)
    is_active_on (DrawSecond at is to) = as_said _ _ _ at is to (λ occurs step. c.second_requests_are_transmitted.ensures plan old w v reported ret fresh occurs step)
    is_active_on (AskSecond request bytes address lifetime seed at same asks whole is to) =
        as_said _ _ _ at is to (λ occurs step. c.second_requests_are_granted.ensures plan old w v reported ret request bytes address lifetime seed fresh occurs same asks whole step)
    is_active_on (GiveSecond request address lifetime reply head rest bytes at on is to) =
        as_said _ _ _ at is to (λ occurs step. c.second_replies_are_taken.ensures plan old w v reported ret request address lifetime reply head rest bytes fresh occurs on step)
    is_active_on (Looks what now look is to) = as_said _ _ _ refl is to (λ occurs step. c.worlds_stand_still.ensures.looks plan old w v reported ret progress what now occurs look step)
    is_active_on (Polls now at before is to) = as_said _ _ _ refl is to (λ occurs step. c.worlds_stand_still.ensures.polls plan old w v reported ret progress now occurs at before step)
    is_active_on (Receives now is to) = as_said _ _ _ refl is to (λ occurs step. c.worlds_give_nothing.ensures plan old w v reported ret progress now fresh occurs step)
    is_active_on (DrawsOn now at is to) = as_said _ _ _ at is to (λ occurs step. c.ended_worlds_rest.ensures.rests plan old w v reported ret now occurs step)

    -- ---- what more is known after it

    abbrev Now : Progress → Type 0
    Now to = More (reported ++ event_in ret) to v

    goes_to : (to : Progress) → next ≡ to → Now to → Now next
    goes_to to same is = subst (λ (n : Progress). Now n) (sym same) is

    nothing_first : (a : Answer) → Now (transmitted_first a)
    nothing_first (answer.Transmit sent) = tt
    nothing_first _ = tt

    nothing_replied : (request : Sent) (a : Answer) → Now (replied_first request a)
    nothing_replied request (answer.Reply reply) = tt
    nothing_replied request _ = tt

    nothing_brought : (request : Sent) (reply head rest : List ℕ) → Now (brought_first request reply head rest)
    nothing_brought request reply head [] = tt
    nothing_brought request reply head (byte ∷ rest) = tt

    nothing_second : (a : Answer) → Now (transmitted_second a)
    nothing_second (answer.Transmit sent) = tt
    nothing_second _ = tt

    fits_second : (request : Sent) (address : SocketAddr) (lifetime : ℕ) (a : Answer) → lifetime < 2 ^ 32 → Now (replied_second request address lifetime a)
    fits_second request address lifetime (answer.Reply reply) fits = fits
    fits_second request address lifetime _ fits = tt

    module _ (serving : IsServing plan old.desk v.desk) where
      -- The position stays.
      looked : (from : Progress) (what : ClientCall) (now : ℕ) → IsLook what → IsStep (Call what now) w ret v → More reported from w → Now from
      looked (Granted request address lifetime reply head) what now look step is = is
      looked (Done request address lifetime reply) what now look step is = holding_looks w v reported address lifetime is ret what now look step
      looked Start what now look step is = tt
      looked (Requested request) what now look step is = tt
      looked (Challenged request reply head) what now look step is = tt
      looked Came what now look step is = tt
      looked (Signed request) what now look step is = tt
      looked Barred what now look step is = tt
      looked Silent what now look step is = tt

      received : (from : Progress) (now : ℕ) → IsStep (Call call.PollRecv now) w ret v → More reported from w → Now from
      received (Granted request address lifetime reply head) now step is = is
      received (Done request address lifetime reply) now step is = holding_receives w v reported address lifetime is ret now step
      received Start now step is = tt
      received (Requested request) now step is = tt
      received (Challenged request reply head) now step is = tt
      received Came now step is = tt
      received (Signed request) now step is = tt
      received Barred now step is = tt
      received Silent now step is = tt

      polled : (from : Progress) → IsPolledAt from → More reported from w → Now from
      polled (Granted request address lifetime reply head) at is = is
      polled (Done request address lifetime reply) at is = absurd at
      polled Start at is = tt
      polled (Requested request) at is = tt
      polled (Challenged request reply head) at is = tt
      polled Came at is = tt
      polled (Signed request) at is = tt
      polled Barred at is = tt
      polled Silent at is = tt

      given : (request : Sent) (address : SocketAddr) (lifetime : ℕ) (reply head rest bytes : List ℕ) → IsAtStage plan old reported (Granted request address lifetime reply head) w → lifetime < 2 ^ 32
          → ((x : IsReplied plan old request address lifetime reply head w) → IsBroughtOn plan.client.transport x.client.core reply (head ++ bytes) rest plan.second ret w v)
          → Now (brought_second request address lifetime reply (head ++ bytes) rest)
      given request address lifetime reply head rest bytes is fits brought =
          gives_second w v reported is.0 request address lifetime fits reply head is.1 ret serving rest bytes (brought is.1)

      more_on : Follows plan progress event ret next → IsAtStage plan old reported progress w → More reported progress w → IsStep event w ret v → Now next
      more_on (DrawFirst at is to) occurs more step = goes_to _ to (nothing_first ret)
      more_on (AskFirst request bytes decision seed at same is to) occurs more step = goes_to _ to (nothing_replied request ret)
      more_on (GiveFirst request reply head rest bytes at on is to) occurs more step = goes_to _ to (nothing_brought request reply (head ++ bytes.items) rest)
      more_on (DrawSecond at is to) occurs more step = goes_to _ to (nothing_second ret)
      more_on (AskSecond request bytes address lifetime seed at same asks whole is to) occurs more step =
          let here = subst (λ (e : Event). IsStep e w ret v) is step in
          goes_to _ to (fits_second request address lifetime ret here.0.four_bytes)
      more_on (GiveSecond request address lifetime reply head rest bytes at on is to) occurs more step =
          let here = subst (λ (e : Event). IsStep e w ret v) is step in
          let fits : lifetime < 2 ^ 32 = subst (λ (p : Progress). More reported p w) at more in
          goes_to _ to (given request address lifetime reply head rest bytes.items (subst (λ (p : Progress). IsAtStage plan old reported p w) at occurs) fits (λ x.
          let own = subst (λ (r : Sent). IsStep (ToClient bytes r.to r.from plan.second) w ret v) x.is.request_is here in
          let unserved = unserved_of plan x.choice x.client.core x.client.is c.stages_are_unserved.ensures.signing in
          brings (record { datagram = c.messages_reach_clients.ensures.datagram; chunk = c.messages_reach_clients.ensures.chunk; whole = c.messages_reach_clients.ensures.whole }) plan.client w v
          x.client.core reply head rest bytes plan.second ret x.client.there unserved x.is.message on fresh.timely.in_range own))
      more_on (Looks what now look is to) occurs more step = goes_to _ to (looked progress what now look (subst (λ (e : Event). IsStep e w ret v) is step) more)
      more_on (Polls now at before is to) occurs more step = goes_to _ to (polled progress at more)
      more_on (Receives now is to) occurs more step = goes_to _ to (received progress now (subst (λ (e : Event). IsStep e w ret v) is step) more)
      more_on (DrawsOn now at is to) occurs more step = goes_to _ to tt

  -- ---- all of them

  all : (w new : World) (reported : List TurnEvent) (progress last : Progress) (pairs : List (Event × Answer)) → IsAtStage plan old reported progress w → IsServing plan old.desk w.desk → More reported progress w → IsRun w pairs new → IsScript plan progress pairs last
      → More (reported ++ events_in pairs) last new
  unfolding IsRun IsScript
  all w new reported progress last [] occurs serving more run is =
      subst (λ (l : List TurnEvent). More l last new) (sym (append-nil reported))
      (subst (λ (p : Progress). More reported p new) (sym is) (subst (λ (x : World). More reported progress x) (sym run) more))
  all w new reported progress last (pair ∷ pairs) occurs serving more run is =
      let following = is_active_on w run.0 reported progress is.0 pair.0 pair.1 is.1 occurs run.1 in
      let still = serves plan old.desk pair.0 w run.0 pair.1 run.1 serving in
      let then_more = more_on w run.0 reported progress is.0 pair.0 pair.1 still is.1 occurs more run.1 in
      subst (λ (l : List TurnEvent). More l last new) (append_assoc reported (event_in pair.1) (events_in pairs))
      (all run.0 new (reported ++ event_in pair.1) is.0 last pairs following still then_more run.2 is.2)

  pub held : (new : World) (pairs : List (Event × Answer)) (request : Sent) (address : SocketAddr) (lifetime : ℕ) (reply : List ℕ) → IsRun old pairs new → IsScript plan Start pairs (Done request address lifetime reply)
      → IsHolding plan old (events_in pairs) address lifetime new
  held new pairs request address lifetime reply run is =
      all old new [] Start (Done request address lifetime reply) pairs (refl, record { client = fresh.client; desk_is = refl }) (record { realm = refl; user = fresh.user; hashes = fresh.hashes }) tt run is

pub returns : goal.returns
returns c = λ plan old new pairs request address lifetime reply fresh run is. held c plan old fresh new pairs request address lifetime reply run is
