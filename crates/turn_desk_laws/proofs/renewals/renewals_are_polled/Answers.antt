use Rattle.std.proofs.Common.{◌≡◌, ◌<◌, ℕ, List, sym, subst, []}
use Rattle.std.specs.declared.net.socket_addr.SocketAddr.{SocketAddr}
use Rattle.turn_desk_event.specs.StunProtoTransaction.Schedule.{end_at}
use Rattle.turn_client_proto_api.specs.declared.answer.TurnPollRet.{TurnPollRet}
use Rattle.turn_client_proto_api.specs.declared.answer.TurnPollRet.TheVariants as poll
use Rattle.turn_client_proto_api.specs.Sent.{Sent}
use Rattle.turn_client_proto_step_laws.specs.Timers.Polling.{IsPolled}
use Rattle.turn_client_proto_step_laws.specs.Recv.ClientState.{Protocol}
use Rattle.turn_client_proto_handshake_laws.specs.Choosing.{Choice}
use Rattle.turn_client_proto_progress_laws.specs.Keeping.{IsKeeping}
use Rattle.turn_desk_event.specs.declared.answer.Answer.{Answer}
use Rattle.turn_desk_event.specs.declared.answer.Answer.TheVariants as answer
use Rattle.turn_desk_event.specs.declared.event.ClientCall.TheVariants as call
use Rattle.turn_desk_event.specs.declared.event.Event.TheVariants.{Call}
use Rattle.turn_desk_world_laws.specs.World.Calls.{IsPolledAs}
use Rattle.turn_desk_world_laws.specs.World.Model.{World}
use Rattle.turn_desk_world_laws.specs.World.Runs.{IsStep}
use Rattle.turn_desk_progress_laws.specs.Promises.{control_at}
use Rattle.turn_desk_progress_laws.specs.Scripts.{Plan}
use Rattle.turn_desk_progress_laws.specs.Watched.{term_of}
use Rattle.turn_desk_progress_laws.proofs.Waiting.{polls}
use Rattle.turn_desk_laws.specs.RefreshStages.{IsRefreshingOn, refresh_queued}
use Rattle.turn_desk_laws.specs.RenewalLoops.{Challenged, Holding, IsInTime, MayPollOn, Refreshing, Renewal, RenewalPosition, Renewing, Turned}
use Rattle.turn_desk_laws.specs.RenewalStages.{IsHeldAt, IsOutstandingAt, IsStageAt, count_by, queue_by}
use Rattle.turn_desk_laws.proofs.RenewalWorlds.{keeps_so, none_answers, second_answers, stands_on}
use Rattle.turn_desk_laws.proofs.renewals.renewals_are_polled.Goals as goal

module _ (c : goal.After-challenged_refreshes_wait) (plan : Plan) (old w v : World) (address : SocketAddr) (secondly : Sent) (p : RenewalPosition) (now : ℕ) (ret : Answer) (in_time : IsInTime p now) (step : IsStep (Call call.Poll now) w ret v) where
  polled_as : (q core : Protocol) (a : Answer) → ((r : TurnPollRet) → IsPolled q now r core → core ≡ q) → IsPolledAs a q now core → core ≡ q
  polled_as q core (answer.Wait time) same polled = same (poll.WaitUntil time) polled
  polled_as q core (answer.Socket id socket peer) same polled = same (poll.AllocateTcpSocket id socket peer) polled
  polled_as q core (answer.Close local remote) same polled = same (poll.TcpClose local remote) polled
  polled_as q core answer.Closed same polled = same poll.Closed polled
  polled_as q core _ same polled = absurd polled

  held : IsHeldAt plan old address secondly p w → IsHeldAt plan old address secondly p v
  held k =
      let d = polls (control_at plan.client.transport []) w v k.client.core now ret k.client.there in_time.in_range step in
      let before = in_time.before in
      let same = polled_as k.client.core d.core ret (λ r polled.
      (c.keeping_clients_are_polled.ensures plan.client k.choice address (term_of k.first p.from p.lifetime) p.sent k.queue k.events k.client.core d.core now r k.client.is
      (second_answers plan k.choice secondly p.again k.queue k.left) k.lasts in_time.in_range before polled).unchanged) d.polled in
      record {
        choice = k.choice;
        signs = keeps_so plan old k.choice w.desk v.desk d.desk k.signs;
        first = k.first;
        lasts = k.lasts;
        unqueued = k.unqueued;
        unchallenged = k.unchallenged;
        queue = k.queue;
        left = k.left;
        events = k.events;
        client = record { core = d.core; there = d.there; is = subst (λ (q : Protocol). IsKeeping plan.client k.choice address (term_of k.first p.from p.lifetime) p.sent k.queue k.events q) (sym same) k.client.is };
      }

  moves : now < end_at p.made plan.client.config.waits → (choice : Choice) (number : ℕ) (head : List ℕ) → IsOutstandingAt plan old address p choice number head w → IsOutstandingAt plan old address p choice number head v
  moves still choice number head x =
      let d = polls (control_at plan.client.transport head) w v x.client.core now ret x.client.there in_time.in_range step in
      let same = polled_as x.client.core d.core ret (λ r polled.
      c.challenged_refreshes_wait.ensures.polled plan.client choice address (term_of x.first p.from p.lifetime) x.earlier number p.made (count_by p.queued p.many) p.sent (queue_by p.queued (refresh_queued plan.client choice number)) x.events x.client.core d.core now r x.client.is
      (none_answers p.queued plan choice number) x.lasts still in_time.before polled) d.polled in
      record {
        signs = keeps_so plan old choice w.desk v.desk d.desk x.signs;
        first = x.first;
        lasts = x.lasts;
        fits = x.fits;
        earlier = x.earlier;
        count = x.count;
        events = x.events;
        client = record {
          core = d.core;
          there = d.there;
          is = subst (λ (q : Protocol). IsRefreshingOn plan.client choice address (term_of x.first p.from p.lifetime) x.earlier number p.made (count_by p.queued p.many) p.sent (queue_by p.queued (refresh_queued plan.client choice number)) x.events q) (sym same) x.client.is;
        };
      }

  by_progress : (progress : Renewal) → MayPollOn plan progress p.made now → IsStageAt plan old address secondly progress p w → IsStageAt plan old address secondly progress p v
  by_progress Holding unended s = held s
  by_progress (Refreshing request) unended s = stands_on plan old address secondly p w v (moves unended) (Refreshing request) held s
  by_progress (Renewing request more reply head) unended s = stands_on plan old address secondly p w v (moves unended) (Renewing request more reply head) held s
  by_progress (Challenged request reply head) unended s = stands_on plan old address secondly p w v (moves unended) (Challenged request reply head) held s
  by_progress (Turned request reply) unended s = stands_on plan old address secondly p w v (moves unended) (Turned request reply) held s

pub returns : goal.returns
returns c = λ plan old w v address secondly progress p now ret s in_time unended step. by_progress c plan old w v address secondly p now ret in_time step progress unended s
