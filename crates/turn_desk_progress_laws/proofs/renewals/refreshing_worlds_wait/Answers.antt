use Rattle.std.proofs.Common.{◌≡◌, ◌<◌, ◌≤◌, ◌+◌, ℕ, arith, List, [], Option, Some, None, sym, subst, inl, inr}
use Rattle.std.specs.declared.net.socket_addr.SocketAddr.{SocketAddr}
use Rattle.turn_desk_event.specs.StunProtoTransaction.Schedule.{end_at}
use Rattle.turn_client_proto_api.specs.declared.answer.TurnPollRet.{TurnPollRet}
use Rattle.turn_client_proto_api.specs.declared.answer.TurnPollRet.TheVariants as poll
use Rattle.turn_client_proto_api.specs.declared.event.TurnEvent.{TurnEvent}
use Rattle.turn_client_proto_handshake_laws.specs.Choosing.{Choice}
use Rattle.turn_client_proto_step_laws.specs.Timers.Drawing.{IsTransmitted}
use Rattle.turn_client_proto_api.specs.Sent.{Sent, sent_of}
use Rattle.turn_client_proto_handshake_laws.specs.Driving.{client_end}
use Rattle.turn_client_proto_step_laws.specs.Timers.Polling.{IsPolled}
use Rattle.turn_client_proto_progress_laws.specs.Keeping.{IsRefreshing, IsTerm, Term, due_of}
use Rattle.turn_client_proto_progress_laws.specs.Refreshed.{refresh_requested}
use Rattle.turn_desk_world_laws.specs.World.Calls.{IsTransmittedAs, IsPolledAs}
use Rattle.turn_client_proto_step_laws.specs.Recv.ClientState.{Protocol}
use Rattle.turn_desk_event.specs.declared.answer.Answer.{Answer}
use Rattle.turn_desk_event.specs.declared.answer.Answer.TheVariants as answer
use Rattle.turn_desk_event.specs.declared.event.ClientCall.TheVariants as call
use Rattle.turn_desk_event.specs.declared.event.Event.TheVariants.{Call, Draw}
use Rattle.turn_desk_world_laws.specs.World.Model.{World}
use Rattle.turn_desk_world_laws.specs.World.Runs.{IsStep}
use Rattle.turn_desk_progress_laws.specs.Promises.{HasClient, control_at}
use Rattle.turn_desk_progress_laws.specs.Scripts.{Plan}
use Rattle.turn_desk_progress_laws.proofs.Clients.{draws}
use Rattle.turn_desk_progress_laws.specs.Turns.{IsUnderWay, Off, Refreshing, Renewing, Turn, Watching}
use Rattle.turn_desk_progress_laws.specs.Watched.{IsAnswered, IsAwaiting, IsAtStep, term_of}
use Rattle.turn_desk_progress_laws.proofs.RenewalServing.{same_serving}
use Rattle.turn_desk_progress_laws.proofs.Waiting.{polls}
use Rattle.turn_desk_progress_laws.proofs.renewals.refreshing_worlds_wait.Goals as goal

module _ (c : goal.After-refreshing_clients_wait) (plan : Plan) (old : World) (address : SocketAddr) (w v : World) (ret : Answer) where
  -- The client still awaits the response.
  pub record IsStillAt (choice : Choice) (t : Term) (number at : ℕ) (events : List TurnEvent) (head : List ℕ) : Type 0 where
    pub many : ℕ
    pub client : HasClient plan head v (λ p. IsRefreshing plan.client choice address t number at many at events p)
    pub desk : v.desk ≡ w.desk

  -- ---- for each turn

  abbrev Stays : (now : ℕ) → Type 0
  Stays now = (choice : Choice) (t : Term) (number many : ℕ) (events : List TurnEvent) (head : List ℕ) → IsTerm t → now ≡ due_of t → now ≤ client_end
      → HasClient plan head w (λ p. IsRefreshing plan.client choice address t number now many now events p) → IsStillAt choice t number now events head

  by_turn : (now : ℕ) → Stays now → (at : Turn) → IsUnderWay at now → IsAtStep plan old address at w → IsAtStep plan old address at v
  by_turn now stays (Watching s) under is = absurd under
  by_turn now stays Off under is = absurd under
  by_turn now stays (Refreshing request from lifetime at) under is =
      subst (λ (n : ℕ). IsAtStep plan old address (Refreshing request from lifetime n) v) under (awaits (subst (λ (n : ℕ). IsAwaiting plan old address request from lifetime n [] w) (sym under) is))
    where
      awaits : IsAwaiting plan old address request from lifetime now [] w → IsAwaiting plan old address request from lifetime now [] v
      awaits x =
          let l = stays x.choice (term_of x.first from lifetime) x.number x.many x.events [] x.lasts x.in_time x.in_range x.client in
          record {
            choice = x.choice;
            agreed = x.agreed;
            serving = same_serving plan old.desk w.desk v.desk l.desk x.serving;
            first = x.first;
            lasts = x.lasts;
            in_time = x.in_time;
            in_range = x.in_range;
            number = x.number;
            fits = x.fits;
            request_is = x.request_is;
            many = l.many;
            events = x.events;
            client = l.client;
          }
  by_turn now stays (Renewing request reply head lifetime at) under is =
      subst (λ (n : ℕ). IsAtStep plan old address (Renewing request reply head lifetime n) v) under (answered (subst (λ (n : ℕ). IsAnswered plan old address request reply head lifetime n w) (sym under) is))
    where
      answered : IsAnswered plan old address request reply head lifetime now w → IsAnswered plan old address request reply head lifetime now v
      answered a =
          let x = a.awaits in
          let l = stays x.choice (term_of x.first a.from a.before) x.number x.many x.events head x.lasts x.in_time x.in_range x.client in
          record {
            from = a.from;
            before = a.before;
            awaits = record {
              choice = x.choice;
              agreed = x.agreed;
              serving = same_serving plan old.desk w.desk v.desk l.desk x.serving;
              first = x.first;
              lasts = x.lasts;
              in_time = x.in_time;
              in_range = x.in_range;
              number = x.number;
              fits = x.fits;
              request_is = x.request_is;
              many = l.many;
              events = x.events;
              client = l.client;
            };
            enough = a.enough;
            fits = a.fits;
            part = a.part;
            renewal = a.renewal;
          }

  -- ---- draws

  transmitted_still : (now : ℕ) (choice : Choice) (t : Term) (number many : ℕ) (events : List TurnEvent) (p core : Protocol) → IsRefreshing plan.client choice address t number now many now events p → (sent : Option Sent) → IsTransmitted p now sent core
      → (more : ℕ) × IsRefreshing plan.client choice address t number now more now events core
  transmitted_still now choice t number many events p core is sent transmitted = elim (c.refreshing_clients_wait.ensures.cases plan.client (refresh_requested plan.client choice number now) many now) [
    | inl due ↦ (many + 1, (c.refreshing_clients_wait.ensures.again plan.client choice address t number now many now events p core now sent is due transmitted).1)
    | inr quiet ↦ (
      many,
      subst (λ (q : Protocol). IsRefreshing plan.client choice address t number now many now events q)
          (sym (c.refreshing_clients_wait.ensures.still plan.client choice address t number now many now events p core now sent is quiet transmitted).1) is,
    )
  ]

  transmitted_as : (now : ℕ) (p core : Protocol) → (a : Answer) → IsTransmittedAs a p now core → (sent : Option Sent) × IsTransmitted p now sent core
  unfolding IsTransmittedAs
  transmitted_as now p core (answer.Transmit transmit) transmitted = (Some (sent_of transmit), transmitted)
  transmitted_as now p core answer.Nothing transmitted = (None, transmitted)
  transmitted_as now p core _ transmitted = absurd transmitted

  pub draws_on : (now : ℕ) (at : Turn) → IsUnderWay at now → IsStep (Draw now) w ret v → IsAtStep plan old address at w → IsAtStep plan old address at v
  draws_on now at under step is = by_turn now (λ choice t number many events head lasts in_time in_range h.
      let d = draws (control_at plan.client.transport head) w v h.core now ret h.there in_range step in
      let transmitted = transmitted_as now h.core d.core ret d.transmitted in
      let more = transmitted_still now choice t number many events h.core d.core h.is transmitted.0 transmitted.1 in
      record { many = more.0; client = record { core = d.core; there = d.there; is = more.1 }; desk = d.desk }) at under is

  -- ---- polls

  polled_as : (now : ℕ) (p core : Protocol) (a : Answer) → ((r : TurnPollRet) → IsPolled p now r core → core ≡ p) → IsPolledAs a p now core → core ≡ p
  polled_as now p core (answer.Wait time) same polled = same (poll.WaitUntil time) polled
  polled_as now p core (answer.Socket id socket peer) same polled = same (poll.AllocateTcpSocket id socket peer) polled
  polled_as now p core (answer.Close local remote) same polled = same (poll.TcpClose local remote) polled
  polled_as now p core answer.Closed same polled = same poll.Closed polled
  polled_as now p core _ same polled = absurd polled

  pub polls_on : (now : ℕ) (at : Turn) → IsUnderWay at now → now < end_at now plan.client.config.waits → IsStep (Call call.Poll now) w ret v → IsAtStep plan old address at w → IsAtStep plan old address at v
  polls_on now at under before step is = by_turn now (λ choice t number many events head lasts in_time in_range h.
      let d = polls (control_at plan.client.transport head) w v h.core now ret h.there in_range step in
      let enough = lasts.enough in
      let same = polled_as now h.core d.core ret (λ r polled.
      (c.refreshing_clients_wait.ensures.polled plan.client choice address t number now many now events h.core d.core now r h.is lasts in_range before (omega (arith, in_time, enough)) polled).unchanged) d.polled in
      record {
        many = many;
        client = record { core = d.core; there = d.there; is = subst (λ (q : Protocol). IsRefreshing plan.client choice address t number now many now events q) (sym same) h.is };
        desk = d.desk;
      }) at under is

pub returns-clause-draws : goal.returns-clause-draws
returns-clause-draws c = λ plan old w v address at now ret is under step. draws_on c plan old address w v ret now at under step is

pub returns-clause-polls : goal.returns-clause-polls
returns-clause-polls c = λ plan old w v address at now ret is under before step. polls_on c plan old address w v ret now at under before step is
