use Rattle.std.proofs.Common.{◌≡◌, ◌≢◌, ◌<◌, ◌≤◌, ◌⊎◌, ◌&&◌, ◌^◌, ℕ, arith, Bool, true, false, List, [], ◌∷◌, Option, Some, None, ap, refl, sym, ◌∙◌, subst, inl, inr}
use Rattle.std.specs.Prelude.{find, nat_lt, if◌then◌else◌}
use Rattle.std.proofs.lemmas.Bool.{eq-eqb, lt-ltb}
use Rattle.std.specs.declared.net.socket_addr.SocketAddr.{SocketAddr}
use Rattle.turn_desk_core.specs.StunTypesBase.Times.{time_after}
use Rattle.turn_desk_core.specs.StunTypesWire.Attributes.{kind_at}
use Rattle.turn_desk_core.specs.StunTypesWire.Types.{method_of}
use Rattle.turn_desk_core.specs.TurnTypesAttributes.TurnRegistry.{refresh_method}
use Rattle.turn_client_proto_api.specs.Sent.{Sent, sent_of}
use Rattle.turn_client_proto_messages.specs.Waiting.{Queued, is_answer}
use Rattle.turn_client_proto_step_laws.specs.Timers.Drawing.{IsTransmitted}
use Rattle.turn_client_proto_messages.specs.Api.Options.{cadence}
use Rattle.turn_client_proto_step_laws.specs.Recv.ClientState.{Protocol}
use Rattle.turn_client_proto_handshake_laws.specs.Choosing.{Choice, allocate_of, signed_request, signed_sent, signer_by}
use Rattle.turn_client_proto_handshake_laws.specs.Stages.{signed_queued}
use Rattle.turn_client_proto_progress_laws.specs.Keeping.{IsKeeping, IsRefreshing, Term}
use Rattle.turn_client_proto_progress_laws.specs.Refreshed.{refresh_request, refresh_sent}
use Rattle.turn_desk_event.specs.declared.answer.Answer.{Answer}
use Rattle.turn_desk_event.specs.declared.answer.Answer.TheVariants as answer
use Rattle.turn_desk_world_laws.specs.World.Calls.{IsTransmittedAs}
use Rattle.turn_desk_world_laws.specs.World.Model.{World}
use Rattle.turn_desk_progress_laws.specs.Loops.{MayBegin}
use Rattle.turn_desk_progress_laws.specs.Promises.{control_at, over}
use Rattle.turn_desk_progress_laws.specs.Scripts.{Plan}
use Rattle.turn_desk_progress_laws.specs.Turns.{due}
use Rattle.turn_desk_progress_laws.specs.Watched.{term_of}
use Rattle.turn_desk_progress_laws.proofs.Clients.{draws}
use Rattle.turn_desk_progress_laws.proofs.Indexes.{same_sent}
use Rattle.turn_desk_progress_laws.proofs.Looping.{never}
use Rattle.turn_desk_progress_laws.proofs.Times.{order}
use Rattle.turn_desk_laws.specs.RefreshStages.{IsRefreshingOn, refresh_queued}
use Rattle.turn_desk_laws.specs.RenewalLoops.{Holding, IsDueRefresh, IsInTime, IsRefreshSent, IsSecondAgain, Refreshing, RenewalPosition, holding_draw, is_refresh}
use Rattle.turn_desk_laws.specs.RenewalStages.{IsHeldAt, IsSecondLeft, IsStageAt, count_by, queue_by}
use Rattle.turn_desk_laws.proofs.RenewalWorlds.{keeps_so, not_equal, refresh_so}
use Rattle.turn_desk_laws.proofs.renewals.draws_of_held_allocations.Goals as goal

module _ (c : goal.After-challenged_refreshes_wait) (plan : Plan) (old w v : World) (may : MayBegin plan old) (address : SocketAddr) (secondly : Sent) (p : RenewalPosition) (k : IsHeldAt plan old address secondly p w) (now : ℕ) (in_time : IsInTime p now) where
  abbrev t : Term
  t = term_of k.first p.from p.lifetime

  abbrev chosen : Choice
  chosen = k.choice

  -- What a draw does: it transmits the second request, or a REFRESH, or nothing.
  pub data Drawn (sent : Option Sent) (core : Protocol) : Type 0 where
    Second : sent ≡ Some secondly → p.again ≡ true → method_of (kind_at secondly.bytes) ≢ refresh_method → time_after p.sent cadence ≤ now → IsKeeping plan.client chosen address t now [] k.events core → Drawn sent core
    Asks : (number : ℕ) → number < 2 ^ 96 → due p.from p.lifetime ≤ now → time_after p.sent cadence ≤ now → sent ≡ Some (refresh_sent plan.client chosen number now) → IsRefreshing plan.client chosen address t number now 1 now k.events core → Drawn sent core
    Not : sent ≡ None → core ≡ k.client.core → (now < time_after p.sent cadence) ⊎ ((k.queue ≡ []) × (now < due p.from p.lifetime)) → Drawn sent core

  no_refresh : method_of (kind_at (signed_request plan.client chosen)) ≢ refresh_method
  no_refresh is =
      let read = c.proof_requests_are_read.ensures.read (signer_by plan.client chosen) (allocate_of plan.client) chosen.number (c.signed_allocates_answer.ensures.short plan.client chosen may.room k.signs.agreed.chosen) may.room.1 k.signs.agreed.chosen.fits in
      Prim.cc (sym (ap method_of read.kind) ∙ is)

  module _ (sent : Option Sent) (core : Protocol) (transmitted : IsTransmitted k.client.core now sent core) where
    soon_so : (queue : List Queued) → IsKeeping plan.client chosen address t p.sent queue k.events k.client.core → find is_answer queue ≡ None → now < time_after p.sent cadence → Drawn sent core
    soon_so queue is none soon =
        let x = c.keeping_clients_refresh.ensures.rests plan.client chosen address t p.sent queue k.events k.client.core core now sent is none soon transmitted in
        Not x.0 x.1 (inl soon)

    empty_so : k.queue ≡ [] → (now < time_after p.sent cadence) ⊎ (time_after p.sent cadence ≤ now) → (now < due p.from p.lifetime) ⊎ (due p.from p.lifetime ≤ now) → Drawn sent core
    empty_so none early (inl before) =
        let is = subst (λ (l : List Queued). IsKeeping plan.client chosen address t p.sent l k.events k.client.core) none k.client.is in
        let x = c.keeping_clients_refresh.ensures.still plan.client chosen address t p.sent k.events k.client.core core now sent is k.lasts before transmitted in
        Not x.0 x.1 (inr (none, before))
    empty_so none (inl soon) (inr after) =
        soon_so [] (subst (λ (l : List Queued). IsKeeping plan.client chosen address t p.sent l k.events k.client.core) none k.client.is) refl soon
    empty_so none (inr late) (inr after) =
        let is = subst (λ (l : List Queued). IsKeeping plan.client chosen address t p.sent l k.events k.client.core) none k.client.is in
        let before = in_time.before in
        let x = c.keeping_clients_refresh.ensures.refreshes plan.client chosen address t p.sent k.events k.client.core core now sent may.room k.signs.agreed.chosen is k.lasts late after (omega (arith, before)) transmitted in
        Asks x.0 x.1 after late x.2 x.3

    some_so : (p.again ≡ true) × (k.queue ≡ signed_queued plan.client chosen ∷ []) × (secondly ≡ signed_sent plan.client chosen) → (now < time_after p.sent cadence) ⊎ (time_after p.sent cadence ≤ now) → Drawn sent core
    some_so some (inl soon) =
        soon_so (signed_queued plan.client chosen ∷ []) (subst (λ (l : List Queued). IsKeeping plan.client chosen address t p.sent l k.events k.client.core) some.1 k.client.is) refl soon
    some_so some (inr late) =
        let is = subst (λ (l : List Queued). IsKeeping plan.client chosen address t p.sent l k.events k.client.core) some.1 k.client.is in
        let x = c.keeping_clients_refresh.ensures.releases plan.client chosen address t p.sent (signed_queued plan.client chosen) [] k.events k.client.core core now sent is late transmitted in
        Second (x.0 ∙ ap Some (sym some.2)) some.0 (subst (λ (s : Sent). method_of (kind_at s.bytes) ≢ refresh_method) (sym some.2) no_refresh) late x.1

    drawn_so : Drawn sent core
    drawn_so = elim k.left [
      | inl none ↦ empty_so none (order now (time_after p.sent cadence)) (order now (due p.from p.lifetime))
      | inr some ↦ some_so some (order now (time_after p.sent cadence))
    ]

  -- ---- in a world

  module _ (core : Protocol) (there : v.client ≡ Some (over (control_at plan.client.transport []) core)) (desk : v.desk ≡ w.desk) where
    abbrev After : Answer → Type 0
    After ret = IsStageAt plan old address secondly (holding_draw now ret p).progress (holding_draw now ret p) v × IsDueRefresh plan old secondly p now ret

    abbrev At : RenewalPosition → Type 0
    At q = IsStageAt plan old address secondly q.progress q v

    abbrev request_made : Sent → RenewalPosition
    request_made message = record p { progress = Refreshing message; last = now; sent = now; made = now; many = 1; again = false }

    abbrev went : RenewalPosition
    went = record p { progress = Holding; last = now; sent = now; again = false }

    by_kind : (message : Sent) (is : Bool) → is_refresh message ≡ is → At (if is then request_made message else went) → At (if is_refresh message then request_made message else went)
    by_kind message is same at = subst (λ (x : Bool). At (if x then request_made message else went)) (sym same) at

    second_after : (message : Sent) → Drawn (Some message) core → (message ≡ secondly) → p.again ≡ true → method_of (kind_at secondly.bytes) ≢ refresh_method → IsKeeping plan.client chosen address t now [] k.events core → At (if is_refresh message then request_made message else went)
    second_after message d same again other keeps =
        by_kind message false (ap is_refresh same ∙ not_equal (method_of (kind_at secondly.bytes)) refresh_method other) (record {
          choice = chosen;
          signs = keeps_so plan old chosen w.desk v.desk desk k.signs;
          first = k.first;
          lasts = k.lasts;
          unqueued = k.unqueued;
          unchallenged = k.unchallenged;
          queue = [];
          left = inl refl;
          events = k.events;
          client = record { core = core; there = there; is = keeps };
        })

    asks_after : (message : Sent) (number : ℕ) → number < 2 ^ 96 → message ≡ refresh_sent plan.client chosen number now → method_of (kind_at (refresh_request plan.client chosen number)) ≡ refresh_method → IsRefreshing plan.client chosen address t number now 1 now k.events core
        → At (if is_refresh message then request_made message else went)
    asks_after message number fits same method refreshing =
        by_kind message true (ap is_refresh same ∙ eq-eqb (method_of (kind_at (refresh_request plan.client chosen number))) refresh_method method) (record {
          choice = chosen;
          number = number;
          is = record {
            signs = keeps_so plan old chosen w.desk v.desk desk k.signs;
            first = k.first;
            lasts = k.lasts;
            fits = fits;
            earlier = [];
            count = sym k.unchallenged;
            events = k.events;
            client = record {
              core = core;
              there = there;
              is = subst (λ (x : Bool). IsRefreshingOn plan.client chosen address t [] number now (count_by x 1) now (queue_by x (refresh_queued plan.client chosen number)) k.events core) (sym k.unqueued)
                  (c.challenged_refreshes_wait.ensures.begins plan.client chosen address t number now 1 now k.events core refreshing);
            };
          };
          request_is = same;
        })

    by_sent : (message : Sent) → Drawn (Some message) core → At (if is_refresh message then request_made message else went) × ((time_after p.sent cadence ≤ now) × (IsSecondAgain p secondly message ⊎ ((due p.from p.lifetime ≤ now) × IsRefreshSent plan old message)))
    by_sent message (Second is again other late keeps) =
        let same = same_sent message secondly is in
        (second_after message (Second is again other late keeps) same again other keeps, (late, inl (again, same)))
    by_sent message (Asks number fits after late is refreshing) =
        let same = same_sent message (refresh_sent plan.client chosen number now) is in
        let signed = c.refreshes_are_signed.ensures.request plan.client chosen number may.room may.text k.signs.agreed.chosen fits in (
          asks_after message number fits same signed.method refreshing,
          (late, inr (after, subst (λ (s : Sent). IsRefreshSent plan old s) (sym same) (refresh_so plan old chosen k.signs.agreed number now signed))),
        )
    by_sent message (Not none same why) = absurd (Prim.cc none)

    given_so : (message : Sent) → (time_after p.sent cadence ≤ now) × (IsSecondAgain p secondly message ⊎ ((due p.from p.lifetime ≤ now) × IsRefreshSent plan old message)) → (IsRefreshSent plan old message ⊎ IsSecondAgain p secondly message) × (now < due p.from p.lifetime → IsSecondAgain p secondly message)
    given_so message (late, inl again) = (inr again, λ before. again)
    given_so message (late, inr asks) = (inl asks.1, λ before. never now (due p.from p.lifetime) before asks.0)

    left_after : (now < time_after p.sent cadence) ⊎ ((k.queue ≡ []) × (now < due p.from p.lifetime)) → IsSecondLeft plan chosen secondly (p.again && nat_lt now (time_after p.sent cadence)) k.queue
    left_after (inr none) = inl none.0
    left_after (inl soon) = elim k.left [
      | inl none ↦ inl none
      | inr some ↦ inr (ap (λ (x : Bool). x && nat_lt now (time_after p.sent cadence)) some.0 ∙ lt-ltb now (time_after p.sent cadence) soon, some.1, some.2)
    ]

    nothing_after : Drawn None core → After answer.Nothing
    nothing_after (Second is again other late keeps) = absurd (Prim.cc is)
    nothing_after (Asks number fits after late is refreshing) = absurd (Prim.cc is)
    nothing_after (Not none same why) = (
      record {
        choice = chosen;
        signs = keeps_so plan old chosen w.desk v.desk desk k.signs;
        first = k.first;
        lasts = k.lasts;
        unqueued = k.unqueued;
        unchallenged = k.unchallenged;
        queue = k.queue;
        left = left_after why;
        events = k.events;
        client = record { core = core; there = there; is = subst (λ (q : Protocol). IsKeeping plan.client chosen address t p.sent k.queue k.events q) (sym same) k.client.is };
      },
      record {
        refreshes = λ after late. elim why [
          | inl soon ↦ never now (time_after p.sent cadence) soon late
          | inr none ↦ never now (due p.from p.lifetime) none.1 after
        ];
        early = λ before. inl refl;
        rests = λ soon. refl;
      },
    )

    by_answer : (ret : Answer) → IsTransmittedAs ret k.client.core now core → After ret
    unfolding IsTransmittedAs
    by_answer (answer.Transmit message) transmitted =
        let s = by_sent (sent_of message) (drawn_so (Some (sent_of message)) core transmitted) in
        let g = given_so (sent_of message) s.1 in (
          s.0,
          record {
            refreshes = λ after late. g.0;
            early = λ before. inr (g.1 before);
            rests = λ soon. never now (time_after p.sent cadence) soon s.1.0;
          },
        )
    by_answer answer.Nothing transmitted = nothing_after (drawn_so None core transmitted)
    by_answer _ transmitted = absurd transmitted

pub returns : goal.returns
returns c = λ plan old w v address secondly p now ret may k in_time step.
    let d = draws (control_at plan.client.transport []) w v k.client.core now ret k.client.there in_time.in_range step in
    by_answer c plan old w v may address secondly p k now in_time d.core d.there d.desk ret d.transmitted
