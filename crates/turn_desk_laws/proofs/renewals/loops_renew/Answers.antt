use Rattle.std.proofs.Common.{◌≡◌, ◌≤◌, ℕ, List, [], ◌∷◌, sym, subst}
use Rattle.std.specs.declared.net.socket_addr.SocketAddr.{SocketAddr}
use Rattle.turn_client_proto_api.specs.Sent.{Sent}
use Rattle.turn_client_proto_handshake_laws.specs.Choosing.{Choice}
use Rattle.turn_desk_event.specs.declared.answer.Answer.{Answer}
use Rattle.turn_desk_event.specs.declared.event.Event.{Event}
use Rattle.turn_desk_event.specs.declared.event.Event.TheVariants.{Draw}
use Rattle.turn_desk_world_laws.specs.World.Model.{World}
use Rattle.turn_desk_world_laws.specs.World.Runs.{IsRun}
use Rattle.turn_desk_progress_laws.specs.Loops.{IsLoop, MayBegin, Position, start}
use Rattle.turn_desk_progress_laws.specs.Renewals.{HoldsStill}
use Rattle.turn_desk_progress_laws.specs.Scripts.{Done, Plan}
use Rattle.turn_desk_progress_laws.specs.Turns.{least}
use Rattle.turn_desk_progress_laws.specs.Watched.{term_of}
use Rattle.turn_desk_laws.specs.RefreshStages.{refresh_queued}
use Rattle.turn_desk_laws.specs.RenewalLoops.{Challenged, Holding, IsRenewalLoop, Refreshing, Renewal, RenewalPosition, Renewing, Turned, head_of, held_after}
use Rattle.turn_desk_laws.specs.RenewalStages.{IsAtRenewal, IsOutstandingAt, IsStageAt, count_by, queue_by}
use Rattle.turn_desk_laws.proofs.renewals.loops_renew.Goals as goal

module _ (c : goal.After-challenged_refreshes_are_reported) (plan : Plan) (old : World) (may : MayBegin plan old) (address : SocketAddr) (secondly : Sent) where
  -- ---- all of them

  all : (w new : World) (p last : RenewalPosition) (pairs : List (Event × Answer)) → IsAtRenewal plan old address secondly p w → IsRun w pairs new → IsRenewalLoop plan p pairs last → IsAtRenewal plan old address secondly last new
  unfolding IsRun IsRenewalLoop
  all w new p last [] occurs run is = subst (λ (x : RenewalPosition). IsAtRenewal plan old address secondly x new) (sym is) (subst (λ (x : World). IsAtRenewal plan old address secondly p x) (sym run) occurs)
  all w new p last (pair ∷ pairs) occurs run is = all run.0 new is.0 last pairs (c.events_of_renewals_lead_on.ensures plan old w run.0 address secondly p is.0 pair.0 pair.1 may is.1 occurs run.1).0 run.2 is.2

  pub occurs : (one new : World) (first again : List (Event × Answer)) (position : Position) (lifetime : ℕ) (reply : List ℕ) (p : RenewalPosition) → IsRun old first one → IsLoop plan old.desk.auth start first position → position.progress ≡ Done secondly address lifetime reply → least ≤ lifetime
      → IsRun one again new → IsRenewalLoop plan (held_after position lifetime) again p → IsAtRenewal plan old address secondly p new
  occurs one new first again position lifetime reply p run is at enough more on =
      let held = c.loops_hold.ensures plan old one first position secondly address lifetime reply may run is at in
      all one new (held_after position lifetime) p again (c.held_loops_begin.ensures plan old one _ position secondly address lifetime held enough) more on

  -- ---- what that means

  shows : (p : RenewalPosition) (choice : Choice) (number : ℕ) (head : List ℕ) (w : World) → IsOutstandingAt plan old address p choice number head w → HoldsStill plan address head w
  shows p choice number head w x = record {
    core = x.client.core;
    there = x.client.there;
    is = (c.challenged_refreshes_are_reported.ensures.shows plan.client choice address (term_of x.first p.from p.lifetime) x.earlier number p.made (count_by p.queued p.many) p.sent (queue_by p.queued (refresh_queued plan.client choice number)) x.events x.client.core x.client.is).0;
  }

  pub still : (w : World) (p : RenewalPosition) (progress : Renewal) → IsStageAt plan old address secondly progress p w → HoldsStill plan address (head_of progress) w
  still w p Holding k = record {
    core = k.client.core;
    there = k.client.there;
    is = (c.keepers_are_reported.ensures.keeping_shows plan.client k.choice address (term_of k.first p.from p.lifetime) p.sent k.queue k.events k.client.core k.client.is).0;
  }
  still w p (Refreshing request) s = shows p s.choice s.number [] w s.is
  still w p (Renewing request more reply head) s = shows p s.choice s.number head w s.is
  still w p (Challenged request reply head) s = shows p s.choice s.number head w s.is
  still w p (Turned request reply) s = shows p s.choice s.number [] w s.is

pub returns-clause-promised : goal.returns-clause-promised
returns-clause-promised c = λ plan old one new first again position request address lifetime reply p may run is at enough more on.
    still c plan old may address request new p p.progress (occurs c plan old may address request one new first again position lifetime reply p run is at enough more on)

pub returns-clause-sendings : goal.returns-clause-sendings
returns-clause-sendings c = λ plan old one w v first again position request address lifetime reply p next now ret may run is at enough more on leads step.
    (c.events_of_renewals_lead_on.ensures plan old w v address request p next (Draw now) ret may leads (occurs c plan old may address request one w first again position lifetime reply p run is at enough more on) step).1

pub returns-clause-occurs : goal.returns-clause-occurs
returns-clause-occurs c = λ plan old one new first again position request address lifetime reply p may run is at enough more on.
    occurs c plan old may address request one new first again position lifetime reply p run is at enough more on
