use Rattle.std.proofs.Common.{◌≡◌, ℕ, arith, List, [], Some, None, sym, subst}
use Rattle.std.specs.declared.net.socket_addr.SocketAddr.{SocketAddr}
use Rattle.turn_desk_core.specs.StunTypesWire.Grammar.{refusal}
use Rattle.turn_client_proto_api.specs.Sent.{Sent}
use Rattle.turn_client_proto_handshake_laws.specs.Choosing.{Choice, IsChoice}
use Rattle.turn_client_proto_handshake_laws.specs.Coming.{IsPartOf}
use Rattle.turn_client_proto_step_laws.specs.Recv.SocketChunks.{raw_waiting}
use Rattle.turn_client_proto_step_laws.specs.Recv.ClientState.{Protocol}
use Rattle.turn_client_proto_progress_laws.specs.Keeping.{IsKeeping}
use Rattle.turn_client_proto_progress_laws.specs.Refreshed.{refresh_request}
use Rattle.turn_desk_event.specs.declared.answer.Answer.{Answer}
use Rattle.turn_desk_event.specs.declared.event.ClientCall.{ClientCall}
use Rattle.turn_desk_event.specs.declared.event.ClientCall.TheVariants as call
use Rattle.turn_desk_event.specs.declared.event.Event.TheVariants.{Call}
use Rattle.turn_desk_world_laws.specs.World.Model.{World}
use Rattle.turn_desk_world_laws.specs.World.Runs.{IsStep}
use Rattle.turn_desk_progress_laws.specs.Loops.{MayBegin}
use Rattle.turn_desk_progress_laws.specs.Promises.{control_at, over}
use Rattle.turn_desk_progress_laws.specs.Scripts.{IsLook, Plan}
use Rattle.turn_desk_progress_laws.specs.Watched.{term_of}
use Rattle.turn_desk_progress_laws.proofs.Clients.{IsLooked, IsLookedOn, Rests, Still, Took, looks, same_desk}
use Rattle.turn_desk_progress_laws.proofs.Coming.{none_yet, waiting_rests}
use Rattle.turn_desk_laws.specs.RefreshStages.{IsRefreshingOn, refresh_queued}
use Rattle.turn_desk_laws.specs.RenewalLoops.{Challenged, Holding, Refreshing, Renewal, RenewalPosition, Renewing, Turned}
use Rattle.turn_desk_laws.specs.RenewalStages.{IsHeldAt, IsOutstandingAt, IsStageAt, count_by, queue_by}
use Rattle.turn_desk_laws.proofs.RenewalWorlds.{keeps_so, stands_on}
use Rattle.turn_desk_laws.proofs.renewals.renewals_stand_still.Goals as goal

module _ (c : goal.After-refreshes_are_signed) (plan : Plan) (old w v : World) (address : SocketAddr) (secondly : Sent) (p : RenewalPosition) (ret : Answer) where
  -- ---- looks

  module _ (what : ClientCall) (now : ℕ) (look : IsLook what) (step : IsStep (Call what now) w ret v) where
    held : IsHeldAt plan old address secondly p w → IsHeldAt plan old address secondly p v
    held k = let l = looks (control_at plan.client.transport []) w v k.client.core what now ret k.client.there look step in by l l.looked
      where
        by : (l : IsLookedOn (control_at plan.client.transport []) k.client.core ret w v) → IsLooked k.client.core ret l.core → IsHeldAt plan old address secondly p v
        by l (Took event taken said) =
            let e = c.keepers_are_reported.ensures.keeping plan.client k.choice address (term_of k.first p.from p.lifetime) p.sent k.queue k.events k.client.core l.core event k.client.is taken in
            record {
              choice = k.choice;
              signs = keeps_so plan old k.choice w.desk v.desk (same_desk w v l.of) k.signs;
              first = k.first;
              lasts = k.lasts;
              unqueued = k.unqueued;
              unchallenged = k.unchallenged;
              queue = k.queue;
              left = k.left;
              events = e.0;
              client = record { core = l.core; there = l.there; is = e.2 };
            }
        by l (Still same silent) = record {
          choice = k.choice;
          signs = keeps_so plan old k.choice w.desk v.desk (same_desk w v l.of) k.signs;
          first = k.first;
          lasts = k.lasts;
          unqueued = k.unqueued;
          unchallenged = k.unchallenged;
          queue = k.queue;
          left = k.left;
          events = k.events;
          client = record { core = l.core; there = l.there; is = subst (λ (q : Protocol). IsKeeping plan.client k.choice address (term_of k.first p.from p.lifetime) p.sent k.queue k.events q) (sym same) k.client.is };
        }

    moves : (choice : Choice) (number : ℕ) (head : List ℕ) → IsOutstandingAt plan old address p choice number head w → IsOutstandingAt plan old address p choice number head v
    moves choice number head x = let l = looks (control_at plan.client.transport head) w v x.client.core what now ret x.client.there look step in by l l.looked
      where
        by : (l : IsLookedOn (control_at plan.client.transport head) x.client.core ret w v) → IsLooked x.client.core ret l.core → IsOutstandingAt plan old address p choice number head v
        by l (Took event taken said) =
            let e = c.challenged_refreshes_are_reported.ensures.taken plan.client choice address (term_of x.first p.from p.lifetime) x.earlier number p.made (count_by p.queued p.many) p.sent (queue_by p.queued (refresh_queued plan.client choice number)) x.events x.client.core l.core event x.client.is taken in
            record {
              signs = keeps_so plan old choice w.desk v.desk (same_desk w v l.of) x.signs;
              first = x.first;
              lasts = x.lasts;
              fits = x.fits;
              earlier = x.earlier;
              count = x.count;
              events = e.0;
              client = record { core = l.core; there = l.there; is = e.2 };
            }
        by l (Still same silent) = record {
          signs = keeps_so plan old choice w.desk v.desk (same_desk w v l.of) x.signs;
          first = x.first;
          lasts = x.lasts;
          fits = x.fits;
          earlier = x.earlier;
          count = x.count;
          events = x.events;
          client = record {
            core = l.core;
            there = l.there;
            is = subst (λ (q : Protocol). IsRefreshingOn plan.client choice address (term_of x.first p.from p.lifetime) x.earlier number p.made (count_by p.queued p.many) p.sent (queue_by p.queued (refresh_queued plan.client choice number)) x.events q) (sym same) x.client.is;
          };
        }

    pub looked_on : (progress : Renewal) → IsStageAt plan old address secondly progress p w → IsStageAt plan old address secondly progress p v
    looked_on progress s = stands_on plan old address secondly p w v moves progress held s

  -- ---- what has come of its peers

  module _ (may : MayBegin plan old) (now : ℕ) (step : IsStep (Call call.PollRecv now) w ret v) where
    -- Some message.
    message_of : (choice : Choice) → IsChoice plan.client choice → refusal (refresh_request plan.client choice 0) ≡ None
    message_of choice chosen = (c.refreshes_are_signed.ensures.request plan.client choice 0 may.room may.text chosen (omega arith)).message

    rests_at : (core : Protocol) (head message : List ℕ) → w.client ≡ Some (over (control_at plan.client.transport head) core) → raw_waiting core ≡ None → IsPartOf head message → Rests ret w v
    rests_at core head message there none_raw part =
        waiting_rests (record { waiting = c.messages_reach_clients.ensures.waiting; none_waits = c.messages_reach_clients.ensures.none_waits }) plan.client w v core head message now ret there none_raw part step

    outstanding_rests : (choice : Choice) (number : ℕ) (head message : List ℕ) → IsPartOf head message → IsOutstandingAt plan old address p choice number head w → Rests ret w v
    outstanding_rests choice number head message part x =
        rests_at x.client.core head message x.client.there
        (c.challenged_refreshes_are_reported.ensures.shows plan.client choice address (term_of x.first p.from p.lifetime) x.earlier number p.made (count_by p.queued p.many) p.sent (queue_by p.queued (refresh_queued plan.client choice number)) x.events x.client.core x.client.is).1 part

    loop_end : (choice : Choice) → IsChoice plan.client choice → IsPartOf [] (refresh_request plan.client choice 0)
    loop_end choice chosen = none_yet (refresh_request plan.client choice 0) (message_of choice chosen)

    rested : (progress : Renewal) → IsStageAt plan old address secondly progress p w → Rests ret w v
    rested Holding k =
        rests_at k.client.core [] (refresh_request plan.client k.choice 0) k.client.there
        (c.keepers_are_reported.ensures.keeping_shows plan.client k.choice address (term_of k.first p.from p.lifetime) p.sent k.queue k.events k.client.core k.client.is).1 (loop_end k.choice k.signs.agreed.chosen)
    rested (Refreshing request) s = outstanding_rests s.choice s.number [] (refresh_request plan.client s.choice 0) (loop_end s.choice s.is.signs.agreed.chosen) s.is
    rested (Renewing request more reply head) s = outstanding_rests s.choice s.number head reply s.part s.is
    rested (Challenged request reply head) s = outstanding_rests s.choice s.number head reply s.part s.is
    rested (Turned request reply) s = outstanding_rests s.choice s.number [] (refresh_request plan.client s.choice 0) (loop_end s.choice s.is.signs.agreed.chosen) s.is

    pub received_on : (progress : Renewal) → IsStageAt plan old address secondly progress p w → IsStageAt plan old address secondly progress p v
    received_on progress s = let r = rested progress s in subst (λ (x : World). IsStageAt plan old address secondly progress p x) (sym r.same) s

pub returns-clause-looks : goal.returns-clause-looks
returns-clause-looks c = λ plan old w v address secondly progress p what now ret s look step. looked_on c plan old w v address secondly p ret what now look step progress s

pub returns-clause-receives : goal.returns-clause-receives
returns-clause-receives c = λ plan old w v address secondly progress p now ret may s step. received_on c plan old w v address secondly p ret may now step progress s
