use Rattle.std.proofs.Common.{◌≡◌, ◌++◌, ℕ, arith, Bool, true, false, List, [], Option, Some, None, refl, sym, ◌∙◌, subst, inl, inr}
use Rattle.std.specs.Prelude.{option_to_list}
use Rattle.std.specs.declared.net.socket_addr.SocketAddr.{SocketAddr}
use Rattle.turn_desk_core.specs.StunTypesWire.Grammar.{refusal}
use Rattle.turn_client_proto_api.specs.declared.event.TurnEvent.{TurnEvent}
use Rattle.turn_client_proto_handshake_laws.specs.Choosing.{Choice, IsChoice}
use Rattle.turn_client_proto_handshake_laws.specs.Coming.{IsPartOf}
use Rattle.turn_client_proto_step_laws.specs.Recv.SocketChunks.{raw_waiting}
use Rattle.turn_client_proto_progress_laws.specs.Keeping.{IsKeeping, IsRefreshing, Term}
use Rattle.turn_client_proto_progress_laws.specs.Refreshed.{refresh_request}
use Rattle.turn_desk_world_laws.specs.World.Calls.{IsCallReported, IsCalled, IsEventReported}
use Rattle.turn_client_proto_step_laws.specs.Recv.Control.{Control}
use Rattle.turn_client_proto_step_laws.specs.Recv.ClientState.{ClientState, Protocol}
use Rattle.turn_desk_event.specs.declared.answer.Answer.{Answer}
use Rattle.turn_desk_event.specs.declared.answer.Answer.TheVariants as answer
use Rattle.turn_desk_event.specs.declared.event.ClientCall.{ClientCall}
use Rattle.turn_desk_event.specs.declared.event.ClientCall.TheVariants as call
use Rattle.turn_desk_event.specs.declared.event.Event.TheVariants.{Call}
use Rattle.turn_desk_world_laws.specs.World.Model.{World}
use Rattle.turn_desk_world_laws.specs.World.Runs.{IsStep}
use Rattle.turn_desk_progress_laws.specs.Promises.{HasClient, IsFresh, control_at, over}
use Rattle.turn_desk_progress_laws.specs.Scripts.{IsLook, Plan}
use Rattle.turn_desk_progress_laws.proofs.Clients.{IsLooked, IsLookedOn, Rests, Still, Took, done, looks, same_desk}
use Rattle.turn_desk_progress_laws.proofs.Coming.{none_yet, waiting_rests}
use Rattle.turn_desk_progress_laws.specs.Turns.{Turn, Watch, Watching, Refreshing, Renewing, Off, looked_at}
use Rattle.turn_desk_progress_laws.specs.Watched.{IsReported, IsWatched, IsAtStep, term_of}
use Rattle.turn_desk_progress_laws.proofs.RenewalServing.{same_serving}
use Rattle.turn_desk_progress_laws.proofs.renewals.watched_worlds_stand_still.Goals as goal

-- What is left of no events.
none_left : (reported : Bool) (events left : List TurnEvent) (event : Option TurnEvent) → events ≡ option_to_list event ++ left → IsReported reported events → IsReported reported left
none_left false events left event parts is = tt
none_left true events left None parts is = sym parts ∙ is
none_left true events left (Some event) parts is = absurd (Prim.cc (sym parts ∙ is))

-- If an event is polled and none is given, none is queued.
event_reported : (c : Control) (p : Protocol) (q : ClientState) (now : ℕ) (ret : Answer) → ret ≡ answer.Nothing → IsCallReported call.PollEvent ret (over c p) now q → (p.events ≡ []) × (q.core ≡ p)
unfolding IsCallReported IsCalled
event_reported c p q now ret none is = subst (λ (a : Answer). IsEventReported a p q.core) none is.0

pub none_waits : (c : Control) (w v : World) (p : Protocol) (now : ℕ) (ret : Answer) → ret ≡ answer.Nothing → w.client ≡ Some (over c p) → IsStep (Call call.PollEvent now) w ret v → p.events ≡ []
none_waits c w v p now ret none at step =
    let d = done c now _ p w.client v.client ret at step.0 in
    elim d.outcome [
      | inl does ↦ (event_reported c p d.after now ret none does.1).0
      | inr out ↦ absurd (Prim.cc (sym none ∙ out.0))
    ]

module _ (c : goal.After-refreshes_are_signed) (plan : Plan) (old : World) (address : SocketAddr) (w v : World) (ret : Answer) where
  -- ---- looks

  module _ (what : ClientCall) (now : ℕ) (look : IsLook what) (step : IsStep (Call what now) w ret v) where
    watched_looks : (s : Watch) → (k : IsWatched plan old address s w) → (reported : Bool) → IsReported reported k.events → IsWatched plan old address (record s { reported = reported }) v
    watched_looks s k reported is_reported = let l = looks (control_at plan.client.transport []) w v k.client.core what now ret k.client.there look step in by l l.looked
      where
        by : (l : IsLookedOn (control_at plan.client.transport []) k.client.core ret w v) → IsLooked k.client.core ret l.core → IsWatched plan old address (record s { reported = reported }) v
        by l (Took event taken said) =
            let e = c.keepers_are_reported.ensures.keeping plan.client k.choice address (term_of k.first s.from s.lifetime) k.last k.queue k.events k.client.core l.core event k.client.is taken in
            record {
              choice = k.choice;
              agreed = k.agreed;
              serving = same_serving plan old.desk w.desk v.desk (same_desk w v l.of) k.serving;
              first = k.first;
              lasts = k.lasts;
              last = k.last;
              queue = k.queue;
              rested = k.rested;
              left = k.left;
              until = k.until;
              events = e.0;
              reported = none_left reported k.events e.0 event e.1 is_reported;
              client = record { core = l.core; there = l.there; is = e.2 };
            }
        by l (Still same silent) = record {
          choice = k.choice;
          agreed = k.agreed;
          serving = same_serving plan old.desk w.desk v.desk (same_desk w v l.of) k.serving;
          first = k.first;
          lasts = k.lasts;
          last = k.last;
          queue = k.queue;
          rested = k.rested;
          left = k.left;
          until = k.until;
          events = k.events;
          reported = is_reported;
          client = record { core = l.core; there = l.there; is = subst (λ (q : Protocol). IsKeeping plan.client k.choice address (term_of k.first s.from s.lifetime) k.last k.queue k.events q) (sym same) k.client.is };
        }

    -- The events that are left.
    pub record IsLookedAt (choice : Choice) (t : Term) (number at many : ℕ) (head : List ℕ) : Type 0 where
      pub events : List TurnEvent
      pub client : HasClient plan head v (λ p. IsRefreshing plan.client choice address t number at many at events p)
      pub desk : v.desk ≡ w.desk

    refreshing_looks : (choice : Choice) (t : Term) (number at many : ℕ) (head : List ℕ) (events : List TurnEvent) → HasClient plan head w (λ p. IsRefreshing plan.client choice address t number at many at events p) → IsLookedAt choice t number at many head
    refreshing_looks choice t number at many head events h = let l = looks (control_at plan.client.transport head) w v h.core what now ret h.there look step in by l l.looked
      where
        by : (l : IsLookedOn (control_at plan.client.transport head) h.core ret w v) → IsLooked h.core ret l.core → IsLookedAt choice t number at many head
        by l (Took event taken said) =
            let e = c.keepers_are_reported.ensures.refreshing plan.client choice address t number at many at events h.core l.core event h.is taken in
            record { events = e.0; client = record { core = l.core; there = l.there; is = e.2 }; desk = same_desk w v l.of }
        by l (Still same silent) = record {
          events = events;
          client = record { core = l.core; there = l.there; is = subst (λ (q : Protocol). IsRefreshing plan.client choice address t number at many at events q) (sym same) h.is };
          desk = same_desk w v l.of;
        }

    looks_on : (at : Turn) → IsAtStep plan old address at w → IsAtStep plan old address at v
    looks_on (Watching s) k = watched_looks s k s.reported k.reported
    looks_on (Refreshing request from lifetime at) x =
        let l = refreshing_looks x.choice (term_of x.first from lifetime) x.number at x.many [] x.events x.client in
        record {
          choice = x.choice;
          agreed = x.agreed;
          serving = same_serving plan old.desk w.desk v.desk l.desk x.serving;
          first = x.first;
          lasts = x.lasts;
          in_time = x.in_time;
          in_range = x.in_range;
          number = x.number;
          fits = x.fits;
          request_is = x.request_is;
          many = x.many;
          events = l.events;
          client = l.client;
        }
    looks_on (Renewing request reply head lifetime at) a =
        let x = a.awaits in
        let l = refreshing_looks x.choice (term_of x.first a.from a.before) x.number at x.many head x.events x.client in
        record {
          from = a.from;
          before = a.before;
          awaits = record {
            choice = x.choice;
            agreed = x.agreed;
            serving = same_serving plan old.desk w.desk v.desk l.desk x.serving;
            first = x.first;
            lasts = x.lasts;
            in_time = x.in_time;
            in_range = x.in_range;
            number = x.number;
            fits = x.fits;
            request_is = x.request_is;
            many = x.many;
            events = l.events;
            client = l.client;
          };
          enough = a.enough;
          fits = a.fits;
          part = a.part;
          renewal = a.renewal;
        }
    looks_on Off none = absurd none

  -- If no event was returned, none is queued.
  pub looked_so : (what : ClientCall) (now : ℕ) → IsLook what → IsStep (Call what now) w ret v → (at : Turn) → IsAtStep plan old address at w → IsAtStep plan old address (looked_at what ret at) v
  looked_so what now look step at is = by_case what ret refl look step at is
    where
      by_case : (x : ClientCall) (a : Answer) → ret ≡ a → IsLook x → IsStep (Call x now) w ret v → (at : Turn) → IsAtStep plan old address at w → IsAtStep plan old address (looked_at x a at) v
      by_case call.PollEvent answer.Nothing same look step (Watching s) k =
          watched_looks call.PollEvent now look step s k true (sym k.client.is.events_are ∙ none_waits (control_at plan.client.transport []) w v k.client.core now ret same k.client.there step)
      by_case x a same look step at is = looks_on x now look step at is

  -- ---- what has come of its peers

  rests : (at : Turn) → Rests ret w v → IsAtStep plan old address at w → IsAtStep plan old address at v
  rests at r is = subst (λ (x : World). IsAtStep plan old address at x) (sym r.same) is

  module _ (fresh : IsFresh plan old) (now : ℕ) (step : IsStep (Call call.PollRecv now) w ret v) where
    -- Some message.
    message_of : (choice : Choice) → IsChoice plan.client choice → refusal (refresh_request plan.client choice 0) ≡ None
    message_of choice chosen = (c.refreshes_are_signed.ensures.request plan.client choice 0 fresh.room fresh.text chosen (omega arith)).message

    rests_at : (core : Protocol) (head message : List ℕ) → w.client ≡ Some (over (control_at plan.client.transport head) core) → raw_waiting core ≡ None → IsPartOf head message → Rests ret w v
    rests_at core head message there none_raw part =
        waiting_rests (record { waiting = c.messages_reach_clients.ensures.waiting; none_waits = c.messages_reach_clients.ensures.none_waits }) plan.client w v core head message now ret there none_raw part step

    awaiting_rests : (choice : Choice) (t : Term) (number at many : ℕ) (head message : List ℕ) (events : List TurnEvent) → HasClient plan head w (λ p. IsRefreshing plan.client choice address t number at many at events p) → IsPartOf head message → Rests ret w v
    awaiting_rests choice t number at many head message events h part = rests_at h.core head message h.there (c.keepers_are_reported.ensures.refreshing_shows plan.client choice address t number at many at events h.core h.is).1 part

    pub receives : (at : Turn) → IsAtStep plan old address at w → IsAtStep plan old address at v
    receives (Watching s) k =
        let message = message_of k.choice k.agreed.chosen in
        let shows = c.keepers_are_reported.ensures.keeping_shows plan.client k.choice address (term_of k.first s.from s.lifetime) k.last k.queue k.events k.client.core k.client.is in
        rests (Watching s) (rests_at k.client.core [] (refresh_request plan.client k.choice 0) k.client.there shows.1 (none_yet (refresh_request plan.client k.choice 0) message)) k
    receives (Refreshing request from lifetime at) x =
        let message = message_of x.choice x.agreed.chosen in
        rests (Refreshing request from lifetime at)
        (awaiting_rests x.choice (term_of x.first from lifetime) x.number at x.many [] (refresh_request plan.client x.choice 0) x.events x.client (none_yet (refresh_request plan.client x.choice 0) message)) x
    receives (Renewing request reply head lifetime at) a =
        rests (Renewing request reply head lifetime at) (awaiting_rests a.awaits.choice (term_of a.awaits.first a.from a.before) a.awaits.number at a.awaits.many head reply a.awaits.events a.awaits.client a.part) a
    receives Off none = absurd none

pub returns-clause-looks : goal.returns-clause-looks
returns-clause-looks c = λ plan old w v address at what now ret is look step. looked_so c plan old address w v ret what now look step at is

pub returns-clause-receives : goal.returns-clause-receives
returns-clause-receives c = λ plan old w v address at now ret fresh is step. receives c plan old address w v ret fresh now step at is
