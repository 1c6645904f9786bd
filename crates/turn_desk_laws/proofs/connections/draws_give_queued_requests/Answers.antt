use Rattle.std.proofs.Common.{◌≡◌, ◌≤◌, ◌<◌, ◌⊎◌, ◌++◌, ℕ, List, [], ◌∷◌, Option, Some, None, refl, sym, ap, ◌∙◌, subst, inl, inr}
use Rattle.std.specs.declared.net.socket_addr.SocketAddr.{SocketAddr}
use Rattle.turn_desk_core.specs.StunTypesBase.Times.{time_after}
use Rattle.turn_desk_core.specs.StunTypesBase.declared.data.Data.{Data}
use Rattle.turn_desk_core.specs.StunTypesBase.declared.transmit.Transmit.{Transmit}
use Rattle.turn_client_proto_api.specs.Sent.{Sent, sent_of}
use Rattle.turn_client_proto_api.specs.declared.event.TurnEvent.{TurnEvent}
use Rattle.turn_client_proto_step_laws.specs.Recv.ClientState.{Protocol}
use Rattle.turn_client_proto_step_laws.specs.Timers.Drawing.{IsTransmitted as IsDrawOf}
use Rattle.turn_client_proto_messages.specs.Api.Options.{cadence}
use Rattle.turn_client_proto_handshake_laws.specs.Driving.{client_end}
use Rattle.turn_client_proto_messages.specs.StunProtoClient.Client.{Client, Standing}
use Rattle.turn_client_proto_progress_laws.specs.Holders.{Holder, queued_from, sent_from}
use Rattle.turn_client_proto_progress_laws.specs.Resting.{IsResting, refresh_due}
use Rattle.turn_desk_event.specs.declared.answer.Answer.{Answer}
use Rattle.turn_desk_event.specs.declared.answer.Answer.TheVariants as answer
use Rattle.turn_desk_event.specs.declared.event.Event.TheVariants.{Draw}
use Rattle.turn_desk_world_laws.specs.World.Calls.{IsTransmittedAs}
use Rattle.turn_desk_world_laws.specs.World.Model.{World}
use Rattle.turn_desk_world_laws.specs.World.Runs.{IsStep}
use Rattle.turn_desk_progress_laws.specs.Promises.{control_at, over}
use Rattle.turn_desk_progress_laws.specs.Scripts.{Plan}
use Rattle.turn_desk_progress_laws.proofs.Clients.{draws, nothing_transmitted, same_world}
use Rattle.turn_desk_progress_laws.proofs.Indexes.{same_sent}
use Rattle.turn_desk_progress_laws.proofs.Times.{order}
use Rattle.turn_desk_laws.specs.ConnectionLoops.{Answered, Bind, Bound, Challenged, Clear, Connect, Held, IsQuiet, IsQuietFor, Known, MayDraw, Method, Off, Permission}
use Rattle.turn_desk_laws.specs.ConnectionLoops.{Permitted, Queued, Reached, Target, Timing, Transmitted, Unpermitted, Waiting, after_draw, timing_after_draw, transmitted_next}
use Rattle.turn_desk_laws.specs.ConnectionPromises.{IsDrawAt, IsGivenInTime, from_of}
use Rattle.turn_desk_laws.specs.ConnectionStages.{IsRequestMade, IsHeldFor, IsQueued, IsStage, IsTransmitted, earlier_of, holder_at, own_head, pending_for, permitted_at, queued_at, request_at, socket_head}
use Rattle.turn_desk_laws.proofs.ConnectionTools.{counts_on, moves, never}
use Rattle.turn_desk_laws.proofs.connections.draws_give_queued_requests.Goals as goal

module _ (c : goal.After-transmitted_requests_are_signed) (plan : Plan) (old w v : World) (target : Target) (address : SocketAddr) (lifetime since : ℕ) (t : Timing) (now : ℕ) (in_range : now ≤ client_end) (ret : Answer) (step : IsStep (Draw now) w ret v) where
  abbrev Stage : Reached → Timing → World → Type 0
  Stage reached u x = IsStage plan old target address lifetime since reached u x

  abbrev After : Reached → Type 0
  After reached = Stage (after_draw reached ret) (timing_after_draw now ret t) v × IsDrawAt plan old target reached t now ret

  -- ---- where a request is queued

  module _ (method : Method) (s : Stage (Queued method) t w) where
    abbrev h : Holder
    h = holder_at plan address lifetime since s.auth s.standing

    abbrev n : ℕ
    n = s.client.is.transaction_id

    abbrev request_made : IsRequestMade plan target method t (queued_at plan target method h t n) [] h s.events s.client.core n
    request_made = s.client.is.request_made

    module _ (core : Protocol) (there : v.client ≡ Some (over (control_at plan.client.transport []) core)) (same : v.desk ≡ w.desk) where
      -- Less than 50 ms after the last message.
      early : now < time_after t.sent cadence → IsTransmittedAs ret s.client.core now core → After (Queued method)
      early soon transmitted =
          let k = nothing_transmitted s.client.core core now ret
          (λ sent q is. c.holders_rest.ensures.rests h _ (earlier_of method request_made.older) _ _ t.sent s.events s.client.core q now sent request_made.is refl soon is) transmitted in
          subst (λ (r : Answer). Stage (transmitted_next method r) (timing_after_draw now r t) v × IsGivenInTime plan old target method t now r) (sym k.0) (
            moves plan old w v target address lifetime since [] [] (λ h events p. IsQueued plan target method t h events p) (λ h events p. IsQueued plan target method t h events p) s same core there s.events
                (subst (λ (p : Protocol). IsQueued plan target method t h s.events p) (sym k.1) s.client.is),
            record { due = λ late. never now (time_after t.sent cadence) soon late; early = λ _. refl },
          )

      -- At least 50 ms after it.
      module _ (late : time_after t.sent cadence ≤ now) where
        transmits : (message : Transmit Data) → IsDrawOf s.client.core now (Some (sent_of message)) core → Stage (Transmitted method (sent_of message)) (record t { sent = now }) v
        transmits message is =
            let a = c.holders_rest.ensures.sends h (Some (request_at target method h t n)) (earlier_of method request_made.older) (pending_for target method h t.granted t.made request_made.ids n (socket_head method []))
            (queued_from (from_of plan target method) (request_at target method h t n)) [] t.sent s.events s.client.core core now (Some (sent_of message)) request_made.is late is in
            let counted = c.challenges_are_counted.ensures.transmitted h (Some (request_at target method h t n)) (earlier_of method request_made.older) (pending_for target method h t.granted t.made request_made.ids n (socket_head method []))
            (queued_from (from_of plan target method) (request_at target method h t n)) [] t.sent s.events s.client.core core now (Some (sent_of message)) request_made.is late is in
            moves plan old w v target address lifetime since [] [] (λ h events p. IsQueued plan target method t h events p) (λ h events p. IsTransmitted plan target method (record t { sent = now }) (sent_of message) [] h events p) s same core there s.events
            (record {
              transaction_id = n;
              request_made = record {
                fits = request_made.fits;
                ids = request_made.ids;
                among = request_made.among;
                older = request_made.older;
                since_oldest = request_made.since_oldest;
                made_later = request_made.made_later;
                lawful = request_made.lawful;
                apart = request_made.apart;
                is = a.1;
                counts = counts_on method t.challenges s.client.core core counted request_made.counts;
                again = request_made.again;
              };
              request_is = same_sent (sent_of message) (sent_from h (from_of plan target method) (request_at target method h t n)) a.0;
            })

        by_ret : (r : Answer) → IsTransmittedAs r s.client.core now core → Stage (transmitted_next method r) (timing_after_draw now r t) v × IsGivenInTime plan old target method t now r
        unfolding IsTransmittedAs
        by_ret (answer.Transmit message) is =
            let stage = transmits message is in
            let k = c.transmitted_requests_are_signed.ensures plan old v target address lifetime since (record t { sent = now }) method (sent_of message) stage in
            (stage, record { due = λ _. record { signed = k.signed; asks = k.asks; anew = k.anew }; early = λ soon. never now (time_after t.sent cadence) soon late })
        by_ret answer.Nothing is =
            let a = c.holders_rest.ensures.sends h (Some (request_at target method h t n)) (earlier_of method request_made.older) (pending_for target method h t.granted t.made request_made.ids n (socket_head method []))
            (queued_from (from_of plan target method) (request_at target method h t n)) [] t.sent s.events s.client.core core now None request_made.is late is in
            absurd (Prim.cc a.0)
        by_ret _ is = absurd is

    queued_draws : After (Queued method)
    queued_draws =
        let d = draws (control_at plan.client.transport []) w v s.client.core now ret s.client.there in_range step in
        elim (order now (time_after t.sent cadence)) [
          | inl soon ↦ early d.core d.there d.desk soon d.transmitted
          | inr late ↦ by_ret d.core d.there d.desk late ret d.transmitted
        ]

  -- ---- where none is queued

  -- Nothing is given, and nothing changes.
  abbrev Stays : Type 0
  Stays = (ret ≡ answer.Nothing) × (v ≡ w)

  rests_at : (head : List ℕ) (p : Protocol) → w.client ≡ Some (over (control_at plan.client.transport head) p) → ((sent : Option Sent) (q : Protocol) → IsDrawOf p now sent q → (sent ≡ None) × (q ≡ p)) → Stays
  rests_at head p at none =
      let d = draws (control_at plan.client.transport head) w v p now ret at in_range step in
      let k = nothing_transmitted p d.core now ret none d.transmitted in
      (k.0, same_world w v step.1 (d.there ∙ ap (λ (x : Protocol). Some (over (control_at plan.client.transport head) x)) k.1 ∙ sym at))

  stays : (reached : Reached) → Stage reached t w → (r : Stays) → Stage reached (timing_after_draw now ret t) v
  stays reached s r = subst (λ (x : World). Stage reached (timing_after_draw now ret t) x) (sym r.1) (subst (λ (a : Answer). Stage reached (timing_after_draw now a t) w) (sym r.0) s)

  bare : (h : Holder) → h.lifetime ≡ lifetime → h.since ≡ since → now < refresh_due lifetime since → IsResting h [] now
  bare h long from quiet = record { before = (rw (long, from) quiet); standing = tt }

  with_permission : (h : Holder) → h.lifetime ≡ lifetime → h.since ≡ since → IsQuiet lifetime since t now → IsResting h (permitted_at target t.granted) now
  with_permission h long from quiet = record { before = (let b = quiet.before_refresh in rw (long, from) b); standing = (refl, quiet.before_permission, tt) }

  asked_rests : (method : Method) (auth : Client) (standing : Standing) (head : List ℕ) (events : List TurnEvent) (p : Protocol) (n : ℕ) → IsQuietFor lifetime since method t now
      → IsRequestMade plan target method t [] head (holder_at plan address lifetime since auth standing) events p n → (sent : Option Sent) (q : Protocol) → IsDrawOf p now sent q → (sent ≡ None) × (q ≡ p)
  asked_rests Permission auth standing head events p n quiet is sent q drawn_is =
      let h = holder_at plan address lifetime since auth standing in
      c.holders_keep_still.ensures.still h _ [] [] _ [] [] [] t.sent events p q now sent is.is (bare h refl refl quiet) drawn_is
  asked_rests Connect auth standing head events p n quiet is sent q drawn_is =
      let h = holder_at plan address lifetime since auth standing in
      c.holders_keep_still.ensures.still h _ [] (permitted_at target t.granted) [] _ [] [] t.sent events p q now sent is.is (with_permission h refl refl quiet) drawn_is
  asked_rests Bind auth standing head events p n quiet is sent q drawn_is =
      let h = holder_at plan address lifetime since auth standing in
      c.holders_keep_still.ensures.still h _ is.older (permitted_at target t.granted) [] [] [] _ t.sent events p q now sent is.is (with_permission h refl refl quiet) drawn_is

  by_reached : (reached : Reached) → MayDraw lifetime since reached t now → Stage reached t w → After reached
  by_reached Held quiet s =
      let h = holder_at plan address lifetime since s.auth s.standing in
      let r = rests_at [] s.client.core s.client.there (λ sent q is. c.holders_keep_still.ensures.still h None [] [] [] [] [] [] t.sent s.events s.client.core q now sent s.client.is.is (bare h refl refl quiet) is) in
      (stays Held s r, r.0)
  by_reached Unpermitted quiet s = (s, tt)
  by_reached (Queued method) quiet s = queued_draws method s
  by_reached (Transmitted method request) quiet s =
      let r = rests_at [] s.client.core s.client.there (asked_rests method s.auth s.standing [] s.events s.client.core s.client.is.transaction_id quiet s.client.is.request_made) in
      (stays (Transmitted method request) s r, r.0)
  by_reached (Answered method request reply head) quiet s =
      let r = rests_at (own_head method head) s.client.core s.client.there (asked_rests method s.auth s.standing head s.events s.client.core s.client.is.transmitted.transaction_id quiet s.client.is.transmitted.request_made) in
      (stays (Answered method request reply head) s r, r.0)
  by_reached (Challenged method request reply head) quiet s =
      let r = rests_at (own_head method head) s.client.core s.client.there (asked_rests method s.auth s.standing head s.events s.client.core s.client.is.transmitted.transaction_id quiet s.client.is.transmitted.request_made) in
      (stays (Challenged method request reply head) s r, r.0)
  by_reached Permitted quiet s =
      let h = holder_at plan address lifetime since s.auth s.standing in
      let r = rests_at [] s.client.core s.client.there (λ sent q is. c.holders_keep_still.ensures.still h None [] (permitted_at target t.granted) [] [] [] [] t.sent s.events s.client.core q now sent s.client.is.is (with_permission h refl refl quiet) is) in
      (stays Permitted s r, r.0)
  by_reached Known quiet s =
      let h = holder_at plan address lifetime since s.auth s.standing in
      let r = rests_at [] s.client.core s.client.there (λ sent q is. c.holders_keep_still.ensures.still h None [] (permitted_at target t.granted) [] [] _ [] t.sent s.events s.client.core q now sent s.client.is (with_permission h refl refl quiet) is) in
      (stays Known s r, r.0)
  by_reached Clear quiet s =
      let h = holder_at plan address lifetime since s.auth s.standing in
      let r = rests_at [] s.client.core s.client.there (λ sent q is. c.holders_keep_still.ensures.still h None [] (permitted_at target t.granted) [] [] _ [] t.sent s.events s.client.core q now sent s.client.is.is (with_permission h refl refl quiet) is) in
      (stays Clear s r, r.0)
  by_reached (Waiting connection socket peer) quiet s =
      let h = holder_at plan address lifetime since s.auth s.standing in
      let r = rests_at [] s.client.core s.client.there (λ sent q is. c.holders_keep_still.ensures.still h None [] (permitted_at target t.granted) [] [] _ [] t.sent s.events s.client.core q now sent s.client.is.is (with_permission h refl refl quiet) is) in
      (stays (Waiting connection socket peer) s r, r.0)
  by_reached (Bound more) quiet s =
      let h = holder_at plan address lifetime since s.auth s.standing in
      let r = rests_at [] s.client.core s.client.there (λ sent q is. c.holders_keep_still.ensures.still h None s.client.is.older (permitted_at target t.granted) [] [] [] _ t.sent s.events s.client.core q now sent s.client.is.is (with_permission h refl refl quiet) is) in
      (stays (Bound more) s r, r.0)
  by_reached Off quiet s = absurd s

pub returns : goal.returns
returns c = λ plan old w v target address lifetime since t reached now ret in_range quiet s step. by_reached c plan old w v target address lifetime since t now in_range ret step reached quiet s
