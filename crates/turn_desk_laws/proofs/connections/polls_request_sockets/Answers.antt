use Rattle.std.proofs.Common.{◌≡◌, ◌≢◌, ◌≤◌, ◌<◌, ◌⊎◌, false, ℕ, List, [], ◌∷◌, Option, Some, None, ap, refl, sym, ◌∙◌, subst, inl, inr}
use Rattle.std.specs.List.{list_any}
use Rattle.std.specs.declared.net.socket_addr.SocketAddr.{SocketAddr}
use Rattle.turn_desk_event.specs.StunProtoTransaction.Schedule.{end_at}
use Rattle.turn_client_proto_messages.specs.StunProtoClient.Client.{Client, Standing}
use Rattle.turn_client_proto_messages.specs.Waiting.{Queued as QueuedMessage, is_answer}
use Rattle.turn_client_proto_api.specs.declared.answer.TurnPollRet.{TurnPollRet}
use Rattle.turn_client_proto_api.specs.declared.answer.TurnPollRet.TheVariants as poll
use Rattle.turn_client_proto_api.specs.declared.event.TurnEvent.{TurnEvent}
use Rattle.turn_client_proto_step_laws.specs.Recv.ClientState.{Protocol}
use Rattle.turn_client_proto_step_laws.specs.Timers.Polling.{IsPolled}
use Rattle.turn_client_proto_handshake_laws.specs.Driving.{client_end}
use Rattle.turn_client_proto_handshake_laws.specs.Requested.{Requested, end_of}
use Rattle.turn_client_proto_progress_laws.specs.Holders.{Holder, IsListed}
use Rattle.turn_client_proto_progress_laws.specs.Resting.{IsResting, refresh_due}
use Rattle.turn_client_proto_progress_laws.specs.TcpBinding.{AwaitsSocket, own_tuple_of}
use Rattle.turn_desk_event.specs.declared.answer.Answer.{Answer}
use Rattle.turn_desk_event.specs.declared.answer.Answer.TheVariants as answer
use Rattle.turn_desk_event.specs.declared.event.ClientCall.TheVariants as call
use Rattle.turn_desk_event.specs.declared.event.Event.TheVariants.{Call}
use Rattle.turn_desk_world_laws.specs.World.Calls.{IsPolledAs}
use Rattle.turn_desk_world_laws.specs.World.Model.{World}
use Rattle.turn_desk_world_laws.specs.World.Runs.{IsStep}
use Rattle.turn_desk_progress_laws.specs.Promises.{HasClient, control_at, over}
use Rattle.turn_desk_progress_laws.specs.Scripts.{Plan}
use Rattle.turn_desk_progress_laws.proofs.Clients.{Rests, poll_rests}
use Rattle.turn_desk_progress_laws.proofs.Worlds.{poll_called}
use Rattle.turn_desk_laws.specs.ConnectionLoops.{Answered, Bind, Bound, Challenged, Clear, Connect, Held, IsPending, IsQuiet, IsQuietFor, Known, MayPoll, Method, Off, Permission}
use Rattle.turn_desk_laws.specs.ConnectionLoops.{Permitted, Queued, Reached, Target, Timing, Transmitted, Unpermitted, Waiting, after_poll, polled}
use Rattle.turn_desk_laws.specs.ConnectionPromises.{IsPolledAt, Requests}
use Rattle.turn_desk_laws.specs.ConnectionStages.{IsRequestMade, IsClear, IsHeldFor, IsKnown, IsStage, IsWaiting, earlier_of, holder_at, own_head, permitted_at, queued_at, request_at}
use Rattle.turn_desk_laws.proofs.ConnectionTools.{given_up_later, moves}
use Rattle.turn_desk_laws.proofs.connections.polls_request_sockets.Goals as goal

module _ (c : goal.After-connections_are_requested_for) (plan : Plan) (old w v : World) (target : Target) (address : SocketAddr) (lifetime since : ℕ) (t : Timing) (now : ℕ) (in_range : now ≤ client_end) (ret : Answer) (step : IsStep (Call call.Poll now) w ret v) where
  abbrev Stage : Reached → World → Type 0
  Stage reached x = IsStage plan old target address lifetime since reached t x

  abbrev After : Reached → Type 0
  After reached = Stage (after_poll reached ret) v × IsPolledAt plan target w reached ret

  -- ---- where the connection ID is known

  module _ (s : Stage Known w) (core : Protocol) (there : v.client ≡ Some (over (control_at plan.client.transport []) core)) (same : v.desk ≡ w.desk) where
    abbrev h : Holder
    h = holder_at plan address lifetime since s.auth s.standing

    abbrev Learned : Holder → List TurnEvent → Protocol → Type 0
    Learned h events p = IsKnown target t h events p

    asks_one : (r : TurnPollRet) → s.events ≡ [] → IsPolled s.client.core now r core → (r ≡ poll.AllocateTcpSocket target.number (own_tuple_of h) target.peer) × AwaitsSocket h (permitted_at target t.granted) target.number target.peer t.sent [] core
    asks_one r none is = c.connections_are_requested_for.ensures.polled h (permitted_at target t.granted) target.number target.peer t.sent s.client.core core now r (subst (λ (l : List TurnEvent). Learned h l s.client.core) none s.client.is) is

    none_polled : (other : Reached) (r : Answer) → s.events ≡ [] → IsPolledAs r s.client.core now core → Stage (polled r other) v × Requests plan target r
    none_polled other (answer.Wait time) none is = absurd (Prim.cc (asks_one (poll.WaitUntil time) none is).0)
    none_polled other (answer.Socket id socket peer) none is =
        let a = asks_one (poll.AllocateTcpSocket id socket peer) none is in (
          moves plan old w v target address lifetime since [] [] Learned (λ h events p. IsWaiting plan target t id socket peer h events p) s same core there []
              (record { socket_is = (Prim.cc a.0, Prim.cc a.0, Prim.cc a.0); is = a.1 }),
          (Prim.cc a.0, Prim.cc a.0, Prim.cc a.0),
        )
    none_polled other (answer.Close local remote) none is = absurd (Prim.cc (asks_one (poll.TcpClose local remote) none is).0)
    none_polled other answer.Closed none is = absurd (Prim.cc (asks_one poll.Closed none is).0)
    none_polled other _ none is = absurd is

    -- While an event is queued.
    waits_one : (event : TurnEvent) (others : List TurnEvent) (r : TurnPollRet) → s.events ≡ event ∷ others → IsPolled s.client.core now r core → (r ≡ poll.WaitUntil now) × (core ≡ s.client.core)
    waits_one event others r some is = c.connections_are_requested_for.ensures.waits h (permitted_at target t.granted) target.number target.peer t.sent event others s.client.core core now r (subst (λ (l : List TurnEvent). Learned h l s.client.core) some s.client.is) is

    some_polled : (event : TurnEvent) (others : List TurnEvent) (r : Answer) → s.events ≡ event ∷ others → IsPolledAs r s.client.core now core → Stage (polled r Known) v × IsPolledAt plan target w Known r
    some_polled event others (answer.Wait time) some is =
        let a = waits_one event others (poll.WaitUntil time) some is in (
          moves plan old w v target address lifetime since [] [] Learned Learned s same core there s.events (subst (λ (x : Protocol). Learned h s.events x) (sym a.1) s.client.is),
          inr (record { core = s.client.core; there = s.client.there; is = λ none. Prim.cc (sym some ∙ (sym s.client.is.events_are ∙ none)) }),
        )
    some_polled event others (answer.Socket id socket peer) some is = absurd (Prim.cc (waits_one event others (poll.AllocateTcpSocket id socket peer) some is).0)
    some_polled event others (answer.Close local remote) some is = absurd (Prim.cc (waits_one event others (poll.TcpClose local remote) some is).0)
    some_polled event others answer.Closed some is = absurd (Prim.cc (waits_one event others poll.Closed some is).0)
    some_polled event others _ some is = absurd is

    known_polled : IsPolledAs ret s.client.core now core → (events : List TurnEvent) → s.events ≡ events → Stage (polled ret Known) v × IsPolledAt plan target w Known ret
    known_polled is [] none = let k = none_polled Known ret none is in (k.0, inl k.1)
    known_polled is (event ∷ others) some = some_polled event others ret some is

  abbrev clears : Stage Clear w → Stage Known w
  clears s = record {
    auth = s.auth;
    standing = s.standing;
    of = s.of;
    server = s.server;
    events = s.events;
    client = record { core = s.client.core; there = s.client.there; is = s.client.is.is };
  }

  -- ---- where nothing changes

  stays_stored : (reached : Reached) → Stage reached w → Rests ret w v → Stage reached v
  stays_stored reached s r = subst (λ (x : World). Stage reached x) (sym r.same) s

  rests_at : (head : List ℕ) (p : Protocol) → w.client ≡ Some (over (control_at plan.client.transport head) p) → ((r : TurnPollRet) (q : Protocol) → IsPolled p now r q → q ≡ p) → Rests ret w v
  rests_at head p at none = poll_rests (control_at plan.client.transport head) w v p now ret at none step

  bare : (h : Holder) → h.lifetime ≡ lifetime → h.since ≡ since → now < refresh_due lifetime since → IsResting h [] now
  bare h long from quiet = record { before = (rw (long, from) quiet); standing = tt }

  with_permission : (h : Holder) → h.lifetime ≡ lifetime → h.since ≡ since → IsQuiet lifetime since t now → IsResting h (permitted_at target t.granted) now
  with_permission h long from quiet = record { before = (let b = quiet.before_refresh in rw (long, from) b); standing = (refl, quiet.before_permission, tt) }

  none_listed : (x : Requested) → IsListed x [] → now < end_at x.made plan.client.config.waits
  none_listed x listed = absurd listed

  -- No request that may be outstanding is given up.
  lasts : (one : Requested) (older : List Requested) → now < end_at t.oldest plan.client.config.waits → t.oldest ≤ one.made → ((x : Requested) → IsListed x older → t.oldest ≤ x.made) → (x : Requested) → IsListed x (one ∷ older) → now < end_at x.made plan.client.config.waits
  lasts one older before sooner since x (inl same) = subst (λ (y : Requested). now < end_at y.made plan.client.config.waits) (sym same) (given_up_later t.oldest one.made plan.client.config.waits now sooner before)
  lasts one older before sooner since x (inr listed) = given_up_later t.oldest x.made plan.client.config.waits now (since x listed) before

  asked_polled : (method : Method) (auth : Client) (standing : Standing) (queue : List QueuedMessage) (head : List ℕ) (events : List TurnEvent) (p : Protocol) (n : ℕ) → list_any is_answer queue ≡ false → IsQuietFor lifetime since method t now → IsPending plan method t now
      → IsRequestMade plan target method t queue head (holder_at plan address lifetime since auth standing) events p n → (r : TurnPollRet) (q : Protocol) → IsPolled p now r q → q ≡ p
  asked_polled Permission auth standing queue head events p n none quiet pending is r q polled_is =
      let h = holder_at plan address lifetime since auth standing in
      (c.holders_keep_still.ensures.polled h _ [] [] _ [] [] [] queue t.sent events p q now r is.is none (bare h refl refl quiet) tt tt
      (lasts (request_at target Permission h t n) [] pending is.made_later (λ x listed. absurd listed)) polled_is).2
  asked_polled Connect auth standing queue head events p n none quiet pending is r q polled_is =
      let h = holder_at plan address lifetime since auth standing in
      (c.holders_keep_still.ensures.polled h _ [] (permitted_at target t.granted) [] _ [] [] queue t.sent events p q now r is.is none (with_permission h refl refl quiet) tt tt
      (lasts (request_at target Connect h t n) [] pending is.made_later (λ x listed. absurd listed)) polled_is).2
  asked_polled Bind auth standing queue head events p n none quiet pending is r q polled_is =
      let h = holder_at plan address lifetime since auth standing in
      (c.holders_keep_still.ensures.polled h _ is.older (permitted_at target t.granted) [] [] [] _ queue t.sent events p q now r is.is none (with_permission h refl refl quiet) tt (pending.1, tt)
      (lasts (request_at target Bind h t n) is.older pending.0 is.made_later is.since_oldest) polled_is).2

  by_reached : (reached : Reached) → MayPoll plan lifetime since reached t now → Stage reached w → After reached
  by_reached Held quiet s =
      let h = holder_at plan address lifetime since s.auth s.standing in
      (stays_stored Held s (rests_at [] s.client.core s.client.there (λ r q is. (c.holders_keep_still.ensures.polled h None [] [] [] [] [] [] [] t.sent s.events s.client.core q now r s.client.is.is refl (bare h refl refl quiet) tt tt none_listed is).2)), tt)
  by_reached Unpermitted quiet s = (s, tt)
  by_reached (Queued method) quiet s =
      let h = holder_at plan address lifetime since s.auth s.standing in
      (stays_stored (Queued method) s (rests_at [] s.client.core s.client.there (asked_polled method s.auth s.standing (queued_at plan target method h t s.client.is.transaction_id) [] s.events s.client.core s.client.is.transaction_id refl quiet.0 quiet.1 s.client.is.request_made)), tt)
  by_reached (Transmitted method request) quiet s =
      (stays_stored (Transmitted method request) s (rests_at [] s.client.core s.client.there (asked_polled method s.auth s.standing [] [] s.events s.client.core s.client.is.transaction_id refl quiet.0 quiet.1 s.client.is.request_made)), tt)
  by_reached (Answered method request reply head) quiet s =
      (stays_stored (Answered method request reply head) s (rests_at (own_head method head) s.client.core s.client.there (asked_polled method s.auth s.standing [] head s.events s.client.core s.client.is.transmitted.transaction_id refl quiet.0 quiet.1 s.client.is.transmitted.request_made)), tt)
  by_reached (Challenged method request reply head) quiet s =
      (stays_stored (Challenged method request reply head) s (rests_at (own_head method head) s.client.core s.client.there (asked_polled method s.auth s.standing [] head s.events s.client.core s.client.is.transmitted.transaction_id refl quiet.0 quiet.1 s.client.is.transmitted.request_made)), tt)
  by_reached Permitted quiet s =
      let h = holder_at plan address lifetime since s.auth s.standing in
      (stays_stored Permitted s (rests_at [] s.client.core s.client.there (λ r q is. (c.holders_keep_still.ensures.polled h None [] (permitted_at target t.granted) [] [] [] [] [] t.sent s.events s.client.core q now r s.client.is.is refl (with_permission h refl refl quiet) tt tt none_listed is).2)), tt)
  by_reached Known quiet s =
      let on = poll_called (control_at plan.client.transport []) w v s.client.core now ret s.client.there in_range step in
      known_polled s on.core on.there on.desk on.reported s.events refl
  by_reached Clear quiet s =
      let k = clears s in
      let on = poll_called (control_at plan.client.transport []) w v s.client.core now ret s.client.there in_range step in
      none_polled k on.core on.there on.desk Off ret s.client.is.none on.reported
  by_reached (Waiting connection socket peer) quiet s =
      let h = holder_at plan address lifetime since s.auth s.standing in
      (stays_stored (Waiting connection socket peer) s (rests_at [] s.client.core s.client.there (λ r q is. (c.holders_keep_still.ensures.polled h None [] (permitted_at target t.granted) [] [] _ [] [] t.sent s.events s.client.core q now r s.client.is.is refl (with_permission h refl refl quiet) (refl, tt) tt none_listed is).2)), tt)
  by_reached (Bound more) quiet s =
      let h = holder_at plan address lifetime since s.auth s.standing in (
        stays_stored (Bound more) s (rests_at [] s.client.core s.client.there (λ r q is. (c.holders_keep_still.ensures.polled h None s.client.is.older (permitted_at target t.granted) [] [] [] _ [] t.sent s.events s.client.core q now r s.client.is.is refl (with_permission h refl refl quiet.0) tt (tt, tt)
            (λ x listed. given_up_later t.oldest x.made plan.client.config.waits now (s.client.is.since_oldest x listed) quiet.1) is).2)),
        tt,
      )
  by_reached Off quiet s = absurd s

pub returns : goal.returns
returns c = λ plan old w v target address lifetime since t reached now ret in_range quiet s step. by_reached c plan old w v target address lifetime since t now in_range ret step reached quiet s
