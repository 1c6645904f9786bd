use Rattle.std.proofs.Common.{◌≡◌, ◌<◌, ◌≤◌, ◌+◌, ◌⊎◌, ◌&&◌, ℕ, Bool, true, false, List, [], Some, None, ap, refl, sym, ◌∙◌, subst, inl, inr}
use Rattle.std.specs.Prelude.{nat_le, nat_lt}
use Rattle.std.proofs.lemmas.Bool.{cases_Bool, le-leb, lt-leb, lt-ltb, ltb-true}
use Rattle.std.specs.declared.net.socket_addr.SocketAddr.{SocketAddr}
use Rattle.turn_desk_core.specs.StunTypesBase.Times.{time_after}
use Rattle.turn_desk_event.specs.StunProtoTransaction.Schedule.{slot_at}
use Rattle.turn_client_proto_messages.specs.StunProtoClient.Challenges.{ChallengeFields}
use Rattle.turn_client_proto_api.specs.StunProtoAuth.Claims.{Claimed}
use Rattle.turn_client_proto_api.specs.declared.event.TurnEvent.{TurnEvent}
use Rattle.turn_client_proto_api.specs.Sent.{Sent, sent_of}
use Rattle.turn_client_proto_messages.specs.Api.Options.{cadence}
use Rattle.turn_client_proto_step_laws.specs.Recv.ClientState.{Protocol}
use Rattle.turn_client_proto_handshake_laws.specs.Choosing.{Choice}
use Rattle.turn_client_proto_handshake_laws.specs.Driving.{client_end}
use Rattle.turn_client_proto_handshake_laws.specs.Requested.{count_of}
use Rattle.turn_client_proto_progress_laws.specs.Keeping.{Term}
use Rattle.turn_client_proto_progress_laws.specs.Refreshed.{refresh_requested, refresh_sent}
use Rattle.turn_desk_event.specs.declared.answer.Answer.{Answer}
use Rattle.turn_desk_event.specs.declared.answer.Answer.TheVariants as answer
use Rattle.turn_desk_event.specs.declared.event.Event.TheVariants.{Draw}
use Rattle.turn_desk_world_laws.specs.World.Calls.{IsTransmittedAs}
use Rattle.turn_desk_world_laws.specs.World.Model.{World}
use Rattle.turn_desk_world_laws.specs.World.Runs.{IsStep}
use Rattle.turn_desk_progress_laws.specs.Loops.{Gives, IsNoneDue, IsTransmissionDue, MayBegin}
use Rattle.turn_desk_progress_laws.specs.Promises.{control_at, over}
use Rattle.turn_desk_progress_laws.specs.Scripts.{Plan}
use Rattle.turn_desk_progress_laws.specs.Watched.{term_of}
use Rattle.turn_desk_progress_laws.proofs.Clients.{draws}
use Rattle.turn_desk_progress_laws.proofs.Indexes.{same_sent}
use Rattle.turn_desk_progress_laws.proofs.Looping.{clash, never}
use Rattle.turn_desk_progress_laws.proofs.Times.{order}
use Rattle.turn_desk_laws.specs.RefreshStages.{IsRefreshingOn, refresh_queued}
use Rattle.turn_desk_laws.specs.RenewalLoops.{IsNextInTime, IsNextRefresh, IsRefreshAgain, RenewalPosition, counted_draw, is_slot_due, turned_next}
use Rattle.turn_desk_laws.specs.RenewalStages.{IsOutstandingAt, IsStageAt, IsTurnedAt, count_by, queue_by}
use Rattle.turn_desk_laws.proofs.RenewalWorlds.{challenged_on, keeps_so, none_found, refresh_so, renewed_on, requested_on}
use Rattle.turn_desk_laws.proofs.renewals.draws_of_outstanding_refreshes.Goals as goal

-- ---- its slots

slot_due : (plan : Plan) (made count now : ℕ) → IsTransmissionDue plan made count now → is_slot_due plan made count now ≡ true
slot_due plan made count now due =
    let some : nat_lt count (count_of plan.client) ≡ true = lt-ltb count (count_of plan.client) due.0 in
    ap (λ (x : Bool). x && nat_le (slot_at made plan.client.config.waits count) now) some ∙ le-leb (slot_at made plan.client.config.waits count) now due.1

slot_none : (plan : Plan) (made count now : ℕ) → IsNoneDue plan made count now → is_slot_due plan made count now ≡ false
slot_none plan made count now none = elim (nat_lt count (count_of plan.client)) as (λ (x : Bool). nat_lt count (count_of plan.client) ≡ x → (x && nat_le (slot_at made plan.client.config.waits count) now) ≡ false) [
  | true ↦ λ left. lt-leb (slot_at made plan.client.config.waits count) now (none (ltb-true count (count_of plan.client) left))
  | false ↦ λ over. refl
] refl

-- ---- a draw

module _ (c : goal.After-challenged_refreshes_wait) (plan : Plan) (choice : Choice) (address : SocketAddr) (t : Term) (earlier : List ℕ) (number made many sent : ℕ) (events : List TurnEvent) (p core : Protocol) (now : ℕ) where
  abbrev request : Sent
  request = refresh_sent plan.client choice number made

  abbrev At : (queued : Bool) (many sent : ℕ) → Protocol → Type 0
  At queued many sent q = IsRefreshingOn plan.client choice address t earlier number made (count_by queued many) sent (queue_by queued (refresh_queued plan.client choice number)) events q

  -- What a draw does: it transmits the request by its schedule, or from the queue, or nothing.
  pub data Drawn (queued : Bool) (ret : Answer) : Type 0 where
    BySlot : (message : Sent) → Gives ret (λ (s : Sent). s ≡ request) → IsTransmissionDue plan made (count_by queued many) now → At (queued && is_slot_due plan made (many + 1) now) (many + 1) now core → Drawn queued ret
    FromQueue : (message : Sent) → Gives ret (λ (s : Sent). s ≡ request) → queued ≡ true → time_after sent cadence ≤ now → At (queued && is_slot_due plan made (many + 1) now) (many + 1) now core → Drawn queued ret
    Not : ret ≡ answer.Nothing → IsNoneDue plan made (count_by queued many) now → (queued ≡ false) ⊎ (now < time_after sent cadence) → At queued many sent core → Drawn queued ret

  by_slot : (queued : Bool) → IsTransmissionDue plan made (count_by queued many) now → IsRefreshingOn plan.client choice address t earlier number made (count_by queued many + 1) now (queue_by queued (refresh_queued plan.client choice number)) events core
      → At (queued && is_slot_due plan made (many + 1) now) (many + 1) now core
  by_slot true due is = subst (λ (y : Bool). At y (many + 1) now core) (sym (slot_due plan made (many + 1) now due)) is
  by_slot false due is = is

  by_queue : IsNoneDue plan made (many + 1) now → IsRefreshingOn plan.client choice address t earlier number made (many + 1) now [] events core → At (true && is_slot_due plan made (many + 1) now) (many + 1) now core
  by_queue none is = subst (λ (y : Bool). At y (many + 1) now core) (sym (slot_none plan made (many + 1) now none)) is

  abbrev Due : Bool → Type 0
  Due queued = IsTransmissionDue plan made (count_by queued many) now

  abbrev None_due : Bool → Type 0
  None_due queued = IsNoneDue plan made (count_by queued many) now

  abbrev Early : Type 0
  Early = (now < time_after sent cadence) ⊎ (time_after sent cadence ≤ now)

  position_after_draw : (queued : Bool) → At queued many sent p → (ret : Answer) → IsTransmittedAs ret p now core → Due queued ⊎ None_due queued → Early → Drawn queued ret
  unfolding IsTransmittedAs
  position_after_draw queued w (answer.Transmit message) transmitted (inl due) early =
      let s = c.challenged_refreshes_wait.ensures.again plan.client choice address t earlier number made (count_by queued many) sent (queue_by queued (refresh_queued plan.client choice number)) events p core now (Some (sent_of message)) w due transmitted in
      BySlot (sent_of message) (same_sent (sent_of message) request s.0) due (by_slot queued due s.1)
  position_after_draw queued w answer.Nothing transmitted (inl due) early =
      absurd (Prim.cc (c.challenged_refreshes_wait.ensures.again plan.client choice address t earlier number made (count_by queued many) sent (queue_by queued (refresh_queued plan.client choice number)) events p core now None w due transmitted).0)
  position_after_draw queued w (answer.Transmit message) transmitted (inr none) (inl early) =
      absurd (Prim.cc (c.challenged_refreshes_wait.ensures.rests plan.client choice address t earlier number made (count_by queued many) sent (queue_by queued (refresh_queued plan.client choice number)) events p core now (Some (sent_of message)) w none
      (none_found queued plan choice number) early transmitted).0)
  position_after_draw queued w answer.Nothing transmitted (inr none) (inl early) =
      let s = c.challenged_refreshes_wait.ensures.rests plan.client choice address t earlier number made (count_by queued many) sent (queue_by queued (refresh_queued plan.client choice number)) events p core now None w none
      (none_found queued plan choice number) early transmitted in
      Not refl none (inr early) (subst (λ (q : Protocol). At queued many sent q) (sym s.1) w)
  position_after_draw true w (answer.Transmit message) transmitted (inr none) (inr late) =
      let s = c.challenged_refreshes_wait.ensures.sends plan.client choice address t earlier number made (many + 1) sent (refresh_queued plan.client choice number) [] events p core now (Some (sent_of message)) w none late transmitted in
      FromQueue (sent_of message) (same_sent (sent_of message) request s.0) refl late (by_queue none s.1)
  position_after_draw true w answer.Nothing transmitted (inr none) (inr late) =
      absurd (Prim.cc (c.challenged_refreshes_wait.ensures.sends plan.client choice address t earlier number made (many + 1) sent (refresh_queued plan.client choice number) [] events p core now None w none late transmitted).0)
  position_after_draw false w (answer.Transmit message) transmitted (inr none) (inr late) =
      absurd (Prim.cc (c.challenged_refreshes_wait.ensures.still plan.client choice address t earlier number made many sent events p core now (Some (sent_of message)) w none transmitted).0)
  position_after_draw false w answer.Nothing transmitted (inr none) (inr late) =
      let s = c.challenged_refreshes_wait.ensures.still plan.client choice address t earlier number made many sent events p core now None w none transmitted in
      Not refl none (inl refl) (subst (λ (q : Protocol). At false many sent q) (sym s.1) w)
  position_after_draw queued w _ transmitted due early = absurd transmitted

  -- ---- what it gives

  abbrev Request : Sent → Type 0
  Request s = s ≡ request

  -- The results, each where it must be so.
  pub gives_due : (queued : Bool) (ret : Answer) → Drawn queued ret → IsTransmissionDue plan made (count_by queued many) now → Gives ret Request
  gives_due queued ret (BySlot message is due after) again = is
  gives_due queued ret (FromQueue message is some ready after) again = is
  gives_due queued ret (Not none quiet why after) again = clash plan made (count_by queued many) now again quiet

  pub gives_late : (queued : Bool) (ret : Answer) → queued ≡ true → Drawn queued ret → time_after sent cadence ≤ now → Gives ret Request
  gives_late queued ret still (BySlot message is due after) late = is
  gives_late queued ret still (FromQueue message is some ready after) late = is
  gives_late queued ret still (Not none quiet (inl not_so) after) late = absurd (Prim.cc (sym still ∙ not_so))
  gives_late queued ret still (Not none quiet (inr early) after) late = never now (time_after sent cadence) early late

  pub gives_none : (queued : Bool) (ret : Answer) → IsNoneDue plan made (count_by queued many) now → queued ≡ false → Drawn queued ret → ret ≡ answer.Nothing
  gives_none queued ret none not_so (BySlot message is due after) = clash plan made (count_by queued many) now due none
  gives_none queued ret none not_so (FromQueue message is some ready after) = absurd (Prim.cc (sym not_so ∙ some))
  gives_none queued ret none not_so (Not nothing quiet why after) = nothing

  pub either_so : (queued : Bool) (ret : Answer) → Drawn queued ret → (ret ≡ answer.Nothing) ⊎ Gives ret Request
  either_so queued ret (BySlot message is due after) = inr is
  either_so queued ret (FromQueue message is some ready after) = inr is
  either_so queued ret (Not nothing quiet why after) = inl nothing

  pub gives_early : (queued : Bool) (ret : Answer) → IsNoneDue plan made (count_by queued many) now → now < time_after sent cadence → Drawn queued ret → ret ≡ answer.Nothing
  gives_early queued ret none early (BySlot message is due after) = clash plan made (count_by queued many) now due none
  gives_early queued ret none early (FromQueue message is some ready after) = never now (time_after sent cadence) early ready
  gives_early queued ret none early (Not nothing quiet why after) = nothing

-- ---- in a world

module _ (c : goal.After-challenged_refreshes_wait) (plan : Plan) (old w v : World) (address : SocketAddr) (p : RenewalPosition) (choice : Choice) (number : ℕ) (head : List ℕ) (x : IsOutstandingAt plan old address p choice number head w) (now : ℕ) where
  abbrev t : Term
  t = term_of x.first p.from p.lifetime

  abbrev own_request : Sent
  own_request = refresh_sent plan.client choice number p.made

  abbrev Does : Protocol → Answer → Type 0
  Does core ret = Drawn c plan choice address t x.earlier number p.made p.many p.sent x.events x.client.core core now p.queued ret

  -- What it does to the simulation.
  pub record IsDrawnOn (ret : Answer) : Type 0 where
    pub core : Protocol
    pub there : v.client ≡ Some (over (control_at plan.client.transport head) core)
    pub desk : v.desk ≡ w.desk
    pub does : Does core ret

  pub drawn_on : now ≤ client_end → (ret : Answer) → IsStep (Draw now) w ret v → IsDrawnOn ret
  drawn_on early ret step =
      let d = draws (control_at plan.client.transport head) w v x.client.core now ret x.client.there early step in
      record {
        core = d.core;
        there = d.there;
        desk = d.desk;
        does = position_after_draw c plan choice address t x.earlier number p.made p.many p.sent x.events x.client.core d.core now p.queued x.client.is ret d.transmitted
            (c.refreshing_clients_wait.ensures.cases plan.client (refresh_requested plan.client choice number p.made) (count_by p.queued p.many) now) (order now (time_after p.sent cadence));
      }

  abbrev Stays : Answer → Type 0
  Stays ret = IsOutstandingAt plan old address (counted_draw plan now ret p) choice number head v

  outstanding_after : (ret : Answer) → IsDrawnOn ret → Stays ret
  outstanding_after ret d = by ret d.does
    where
      by : (a : Answer) → Does d.core a → Stays a
      by (answer.Transmit message) (BySlot m is due after) = record {
        signs = keeps_so plan old choice w.desk v.desk d.desk x.signs;
        first = x.first;
        lasts = x.lasts;
        fits = x.fits;
        earlier = x.earlier;
        count = x.count;
        events = x.events;
        client = record { core = d.core; there = d.there; is = after };
      }
      by (answer.Transmit message) (FromQueue m is some ready after) = record {
        signs = keeps_so plan old choice w.desk v.desk d.desk x.signs;
        first = x.first;
        lasts = x.lasts;
        fits = x.fits;
        earlier = x.earlier;
        count = x.count;
        events = x.events;
        client = record { core = d.core; there = d.there; is = after };
      }
      by (answer.Transmit message) (Not nothing quiet why after) = absurd (Prim.cc nothing)
      by answer.Nothing (Not nothing quiet why after) = record {
        signs = keeps_so plan old choice w.desk v.desk d.desk x.signs;
        first = x.first;
        lasts = x.lasts;
        fits = x.fits;
        earlier = x.earlier;
        count = x.count;
        events = x.events;
        client = record { core = d.core; there = d.there; is = after };
      }
      by answer.Nothing (BySlot m is due after) = absurd is
      by answer.Nothing (FromQueue m is some ready after) = absurd is
      by _ (BySlot m is due after) = absurd is
      by _ (FromQueue m is some ready after) = absurd is
      by _ (Not nothing quiet why after) = absurd (Prim.cc nothing)

  again_so : (ret : Answer) → IsDrawnOn ret → (r : Sent) → r ≡ own_request → IsRefreshAgain plan p now r ret
  again_so ret d r same = subst (λ (s : Sent). IsRefreshAgain plan p now s ret) (sym same) (record {
    in_time = λ left due. gives_due c plan choice address t x.earlier number p.made p.many p.sent x.events x.client.core d.core now p.queued ret d.does (subst (λ (b : Bool). IsTransmissionDue plan p.made (count_by b p.many) now) (sym left) due);
    late = λ due late. elim (cases_Bool p.queued) [
      | inl still ↦ gives_late c plan choice address t x.earlier number p.made p.many p.sent x.events x.client.core d.core now p.queued ret still d.does late
      | inr left ↦ gives_due c plan choice address t x.earlier number p.made p.many p.sent x.events x.client.core d.core now p.queued ret d.does (subst (λ (b : Bool). IsTransmissionDue plan p.made (count_by b p.many) now) (sym left) due)
    ];
    none = λ left none. gives_none c plan choice address t x.earlier number p.made p.many p.sent x.events x.client.core d.core now p.queued ret (subst (λ (b : Bool). IsNoneDue plan p.made (count_by b p.many) now) (sym left) none) left d.does;
    either = either_so c plan choice address t x.earlier number p.made p.many p.sent x.events x.client.core d.core now p.queued ret d.does;
  })

-- The number of challenges stays.
same_challenges : (plan : Plan) (now : ℕ) (p : RenewalPosition) (ret : Answer) → (counted_draw plan now ret p).challenges ≡ p.challenges
same_challenges plan now p (answer.Transmit message) = refl
same_challenges plan now p _ = refl

-- For a request, at whatever position.
module _ (c : goal.After-challenged_refreshes_wait) (plan : Plan) (old w v : World) (address : SocketAddr) (p : RenewalPosition) (now : ℕ) (early : now ≤ client_end) (ret : Answer) (step : IsStep (Draw now) w ret v) where
  moves : (choice : Choice) (number : ℕ) (head : List ℕ) → IsOutstandingAt plan old address p choice number head w → IsOutstandingAt plan old address (counted_draw plan now ret p) choice number head v
  moves choice number head x = outstanding_after c plan old w v address p choice number head x now ret (drawn_on c plan old w v address p choice number head x now early ret step)

  gives : (choice : Choice) (number : ℕ) (head : List ℕ) → IsOutstandingAt plan old address p choice number head w → (request : Sent) → request ≡ refresh_sent plan.client choice number p.made → IsRefreshAgain plan p now request ret
  gives choice number head x request same = again_so c plan old w v address p choice number head x now ret (drawn_on c plan old w v address p choice number head x now early ret step) request same

  -- ---- the first one after a challenge

  module _ (may : MayBegin plan old) (secondly request : Sent) (reply : List ℕ) (s : IsTurnedAt plan old address p request reply w) where
    signed_so : IsNextRefresh plan old request reply (refresh_sent plan.client s.choice s.number p.made)
    signed_so =
        let is = c.refreshes_are_signed.ensures.request plan.client s.choice s.number may.room may.text s.is.signs.agreed.chosen s.is.fits in
        record {
          is = refresh_so plan old s.choice s.is.signs.agreed s.number p.made is;
          other = λ same. s.other (sym is.number_is ∙ same);
          nonce = λ reported visible. (
              let same : s.choice.reported ≡ reported = Prim.cc (sym s.visible ∙ visible) in
              ap (λ (x : Claimed). x.nonce) is.claims ∙ ap (λ (r : ChallengeFields). Some r.nonce) same);
        }

    abbrev Next : Sent → Type 0
    Next sent = IsNextRefresh plan old request reply sent

    it_is : (a : Answer) → Gives a (λ (x : Sent). x ≡ refresh_sent plan.client s.choice s.number p.made) → Gives a Next
    it_is (answer.Transmit message) is = subst (λ (x : Sent). Next x) (sym is) signed_so
    it_is _ is = absurd is

    d : IsDrawnOn c plan old w v address p s.choice s.number [] s.is now ret
    d = drawn_on c plan old w v address p s.choice s.number [] s.is now early ret step

    one_count : count_by p.queued p.many ≡ 1
    one_count = ap (λ (b : Bool). count_by b p.many) s.still_queued ∙ ap (λ (n : ℕ). n + 1) s.none_sent

    next_in_time : IsNextInTime plan old p now request reply ret
    next_in_time = record {
      goes = λ late. it_is ret (gives_late c plan s.choice address (term_of s.is.first p.from p.lifetime) s.is.earlier s.number p.made p.many p.sent s.is.events s.is.client.core d.core now p.queued ret s.still_queued d.does late);
      again = λ due. it_is ret (gives_due c plan s.choice address (term_of s.is.first p.from p.lifetime) s.is.earlier s.number p.made p.many p.sent s.is.events s.is.client.core d.core now p.queued ret d.does
          (subst (λ (n : ℕ). IsTransmissionDue plan p.made n now) (sym one_count) due));
      rests = λ soon none. gives_early c plan s.choice address (term_of s.is.first p.from p.lifetime) s.is.earlier s.number p.made p.many p.sent s.is.events s.is.client.core d.core now p.queued ret
          (subst (λ (n : ℕ). IsNoneDue plan p.made n now) (sym one_count) none) soon d.does;
    }

    turned_on : IsStageAt plan old address secondly (turned_next request reply ret) (counted_draw plan now ret p) v
    turned_on = by ret (moves s.choice s.number [] s.is) (either_so c plan s.choice address (term_of s.is.first p.from p.lifetime) s.is.earlier s.number p.made p.many p.sent s.is.events s.is.client.core d.core now p.queued ret d.does)
      where
        by : (a : Answer) → IsOutstandingAt plan old address (counted_draw plan now a p) s.choice s.number [] v → (a ≡ answer.Nothing) ⊎ Gives a (λ (x : Sent). x ≡ refresh_sent plan.client s.choice s.number p.made)
            → IsStageAt plan old address secondly (turned_next request reply a) (counted_draw plan now a p) v
        by (answer.Transmit message) o (inr is) = record { choice = s.choice; number = s.number; is = o; request_is = is }
        by (answer.Transmit message) o (inl none) = absurd (Prim.cc none)
        by answer.Nothing o e = record {
          choice = s.choice;
          number = s.number;
          is = o;
          still_queued = s.still_queued;
          none_sent = s.none_sent;
          visible = s.visible;
          other = s.other;
        }
        by _ o (inl none) = absurd (Prim.cc none)
        by _ o (inr is) = absurd is

pub returns-clause-refreshing : goal.returns-clause-refreshing
returns-clause-refreshing c = λ plan old w v address secondly p request now ret s early step. (
  requested_on plan old address p (counted_draw plan now ret p) (same_challenges plan now p ret) w v (moves c plan old w v address p now early ret step) request s,
  gives c plan old w v address p now early ret step s.choice s.number [] s.is request s.request_is,
)

pub returns-clause-renewing : goal.returns-clause-renewing
returns-clause-renewing c = λ plan old w v address secondly p request more reply head now ret s early step. (
  renewed_on plan old address p (counted_draw plan now ret p) (same_challenges plan now p ret) w v (moves c plan old w v address p now early ret step) request more reply head s,
  gives c plan old w v address p now early ret step s.choice s.number head s.is request s.request_is,
)

pub returns-clause-challenged : goal.returns-clause-challenged
returns-clause-challenged c = λ plan old w v address secondly p request reply head now ret s early step. (
  challenged_on plan old address p (counted_draw plan now ret p) (same_challenges plan now p ret) w v (moves c plan old w v address p now early ret step) request reply head s,
  gives c plan old w v address p now early ret step s.choice s.number head s.is request s.request_is,
)

pub returns-clause-turned : goal.returns-clause-turned
returns-clause-turned c = λ plan old w v address secondly p request reply now ret may s early step. (
  turned_on c plan old w v address p now early ret step may secondly request reply s,
  next_in_time c plan old w v address p now early ret step may secondly request reply s,
)
