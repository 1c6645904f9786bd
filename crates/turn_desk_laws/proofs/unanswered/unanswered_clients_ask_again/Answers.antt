use Rattle.std.proofs.Common.{◌≡◌, ◌⊎◌, ◌+◌, ◌≤◌, ◌<◌, ◌++◌, ℕ, arith, List, [], ◌∷◌, Option, Some, None, refl, sym, ap, ◌∙◌, subst, inl, inr}
use Rattle.turn_client_proto_api.specs.declared.event.TurnEvent.{TurnEvent}
use Rattle.turn_client_proto_api.specs.Sent.{Sent, sent_of}
use Rattle.turn_client_proto_step_laws.specs.Recv.ClientState.{Protocol}
use Rattle.turn_client_proto_step_laws.specs.Timers.Drawing.{IsTransmitted}
use Rattle.turn_client_proto_handshake_laws.specs.Driving.{client_end}
use Rattle.turn_client_proto_handshake_laws.specs.Requested.{IsDue, IsQuiet, count_of}
use Rattle.turn_client_proto_handshake_laws.specs.Sent.{HasRoom, IsUsual, Sending, first_sent}
use Rattle.turn_client_proto_handshake_laws.specs.Stages.{IsAsking, first_requested}
use Rattle.turn_client_proto_handshake_laws.proofs.Waiting.{slots_begin, some_sent}
use Rattle.turn_desk_event.specs.StunProtoTransaction.Schedule.{slot_at}
use Rattle.turn_desk_event.specs.declared.answer.Answer.{Answer}
use Rattle.turn_desk_event.specs.declared.answer.Answer.TheVariants as answer
use Rattle.turn_desk_event.specs.declared.event.Event.TheVariants.{Draw}
use Rattle.turn_desk_world_laws.specs.World.Calls.{IsTransmittedAs}
use Rattle.turn_desk_world_laws.specs.World.Model.{World}
use Rattle.turn_desk_world_laws.specs.World.Runs.{IsStep}
use Rattle.turn_desk_progress_laws.specs.Loops.{Gives, IsOnSchedule, Timing, counted}
use Rattle.turn_desk_progress_laws.specs.Promises.{control_at, event_in, over}
use Rattle.turn_desk_progress_laws.specs.Scripts.{Plan}
use Rattle.turn_desk_progress_laws.proofs.Clients.{draw_rests, draws, nothing_transmitted}
use Rattle.turn_desk_progress_laws.proofs.Indexes.{same_sent, untold}
use Rattle.turn_desk_progress_laws.proofs.Looping.{clash, itself}
use Rattle.turn_desk_laws.specs.Unanswered.{HasSent, HasTimedOut, IsDrawAt, MayDraw, RequestState, Unmade, Outstanding, TimedOut, after_draw, sending_of}
use Rattle.turn_desk_laws.specs.UnansweredStages.{IsAskingSo, IsNewSo, IsStageOf}
use Rattle.turn_desk_laws.proofs.UnansweredStaying.{rests_so, sent_more, sent_same}
use Rattle.turn_desk_laws.proofs.unanswered.unanswered_clients_ask_again.Goals as goal

module _ (c : goal.After-ended_clients_rest) (plan : Plan) (w v : World) (reported : List TurnEvent) (t : Timing) (head : List ℕ) (now : ℕ) (early : now ≤ client_end) where
  abbrev After : RequestState → Answer → Type 0
  After request ret = IsStageOf plan (reported ++ event_in ret) (after_draw request) (counted now ret t) head v × IsDrawAt plan request t now ret

  -- The first draw.
  module _ (room : HasRoom plan.client.config) (usual : IsUsual plan.client.config) (is : IsNewSo plan reported t head w) (first : now ≡ plan.client.made) where
    asks : (core : Protocol) → IsAsking plan.client 1 plan.client.made core → IsAsking plan.client (t.many + 1) now core
    asks core is_asking =
        subst (λ (m : ℕ). IsAsking plan.client (t.many + 1) m core) (sym first)
        (subst (λ (n : ℕ). IsAsking plan.client (n + 1) plan.client.made core) (sym is.none_sent) is_asking)

    by_first : (ret : Answer) (core : Protocol) → v.client ≡ Some (over (control_at plan.client.transport head) core) → IsTransmittedAs ret is.client.core plan.client.made core → After Unmade ret
    unfolding IsTransmittedAs
    by_first (answer.Transmit sent) core there transmitted =
        let requested = c.new_clients_ask.ensures.transmitted plan.client is.client.core core (Some (sent_of sent)) room usual is.client.is transmitted in (
          record { untold = untold reported [] is.untold refl; client = record { core = core; there = there; is = asks core requested.1 } },
          same_sent (sent_of sent) (first_sent plan.client) requested.0,
        )
    by_first answer.Nothing core there transmitted = absurd (Prim.cc (c.new_clients_ask.ensures.transmitted plan.client is.client.core core None room usual is.client.is transmitted).0)
    by_first _ core there transmitted = absurd transmitted

  -- Any later draw while the request is outstanding.
  module _ (is : IsAskingSo plan reported t head w) where
    by_later : (ret : Answer) (core : Protocol) → v.client ≡ Some (over (control_at plan.client.transport head) core) → IsTransmittedAs ret is.client.core now core
        → IsDue plan.client (first_requested plan.client) t.many now ⊎ IsQuiet plan.client (first_requested plan.client) t.many now → After Outstanding ret
    unfolding IsTransmittedAs
    by_later (answer.Transmit sent) core there transmitted (inl due) =
        let s = c.asking_clients_wait.ensures.again plan.client t.many t.sent is.client.core core now (Some (sent_of sent)) is.client.is due transmitted in
        let so : sent_of sent ≡ first_sent plan.client = same_sent (sent_of sent) (first_sent plan.client) s.0 in (
          record { untold = untold reported [] is.untold refl; client = record { core = core; there = there; is = s.1 } },
          record { due = λ again. so; none = λ none. clash plan plan.client.made t.many now due none },
        )
    by_later (answer.Transmit sent) core there transmitted (inr quiet) =
        absurd (Prim.cc (c.asking_clients_wait.ensures.still plan.client t.many t.sent is.client.core core now (Some (sent_of sent)) is.client.is quiet transmitted).0)
    by_later answer.Nothing core there transmitted (inl due) = absurd (Prim.cc (c.asking_clients_wait.ensures.again plan.client t.many t.sent is.client.core core now None is.client.is due transmitted).0)
    by_later answer.Nothing core there transmitted (inr quiet) =
        let s = c.asking_clients_wait.ensures.still plan.client t.many t.sent is.client.core core now None is.client.is quiet transmitted in (
          record {
            untold = untold reported [] is.untold refl;
            client = record { core = core; there = there; is = subst (λ (p : Protocol). IsAsking plan.client t.many t.sent p) (sym s.1) is.client.is };
          },
          record { due = λ due. clash plan plan.client.made t.many now due quiet; none = λ none. refl },
        )
    by_later _ core there transmitted due = absurd transmitted

  -- A draw of a client that has ended.
  module _ (is : HasTimedOut plan reported head w) (ret : Answer) (step : IsStep (Draw now) w ret v) where
    still : (sent : Option Sent) (q : Protocol) → IsTransmitted is.client.core now sent q → (sent ≡ None) × (q ≡ is.client.core)
    still sent q transmitted = c.ended_clients_rest.ensures.transmitted plan.client is.left is.client.core q now sent is.client.is transmitted

    ended : After TimedOut ret
    ended = (
      rests_so plan reported TimedOut t head ret w v (draw_rests (control_at plan.client.transport head) w v is.client.core now ret is.client.there still step) is,
      (let d = draws (control_at plan.client.transport head) w v is.client.core now ret is.client.there early step in (nothing_transmitted is.client.core d.core now ret still d.transmitted).0),
    )

  module _ (ret : Answer) (step : IsStep (Draw now) w ret v) where
    drawn_so : (request : RequestState) → HasRoom plan.client.config → IsUsual plan.client.config → MayDraw plan request now → IsStageOf plan reported request t head w → After request ret
    drawn_so Unmade room usual first is =
        let d = draws (control_at plan.client.transport head) w v is.client.core now ret is.client.there early step in
        by_first room usual is first ret d.core d.there (subst (λ (m : ℕ). IsTransmittedAs ret is.client.core m d.core) first d.transmitted)
    drawn_so Outstanding room usual may is =
        let d = draws (control_at plan.client.transport head) w v is.client.core now ret is.client.there early step in
        by_later is ret d.core d.there d.transmitted (c.asking_clients_wait.ensures.cases plan.client (first_requested plan.client) t.many now)
    drawn_so TimedOut room usual may is = ended is ret step

  -- ---- what was transmitted

  module _ (sendings : List Sending) (all : HasSent plan t sendings) where
    abbrev Sent_ : Answer → Type 0
    Sent_ ret = HasSent plan (counted now ret t) (sendings ++ sending_of (Draw now) ret)

    first_sends : (ret : Answer) → t.many ≡ 0 → now ≡ plan.client.made → Gives ret (λ (sent : Sent). sent ≡ first_sent plan.client) → Sent_ ret
    first_sends (answer.Transmit sent) none first so =
        let some = some_sent plan.client in
        let begins : slot_at plan.client.made plan.client.config.waits 0 ≡ plan.client.made = slots_begin plan.client (subst (λ (m : ℕ). m ≤ client_end) first early) in
        let at : slot_at plan.client.made plan.client.config.waits t.many ≡ plan.client.made = ap (λ (n : ℕ). slot_at plan.client.made plan.client.config.waits n) none ∙ begins in
        sent_more plan t now sendings (sent_of sent) so (subst (λ (n : ℕ). n + 1 ≤ count_of plan.client) (sym none) some) (subst (λ (n : ℕ). n ≤ now) (sym at) (subst (λ (n : ℕ). n ≤ now) first (itself now))) all
    first_sends _ none first so = absurd so

    later_sends : (ret : Answer) → IsDue plan.client (first_requested plan.client) t.many now ⊎ IsQuiet plan.client (first_requested plan.client) t.many now → IsOnSchedule plan t now ret → Sent_ ret
    later_sends (answer.Transmit sent) (inl due) on = let left = due.0 in sent_more plan t now sendings (sent_of sent) (on.due due) (omega (arith, left)) due.1 all
    later_sends answer.Nothing due on = sent_same plan t sendings [] refl all
    later_sends ret (inr quiet) on = subst Sent_ (sym (on.none quiet)) (sent_same plan t sendings [] refl all)
    later_sends _ (inl due) on = absurd (on.due due)

    sends_on : (ret : Answer) (request : RequestState) → MayDraw plan request now → IsStageOf plan reported request t head w → IsDrawAt plan request t now ret → Sent_ ret
    sends_on ret Unmade first is so = first_sends ret is.none_sent first so
    sends_on ret Outstanding may is so = later_sends ret (c.asking_clients_wait.ensures.cases plan.client (first_requested plan.client) t.many now) so
    sends_on ret TimedOut may is so = subst Sent_ (sym so) (sent_same plan t sendings [] refl all)

pub returns-clause-asks : goal.returns-clause-asks
returns-clause-asks c = λ plan w v reported request t head now ret room usual is may early step. drawn_so c plan w v reported t head now early ret step request room usual may is

pub returns-clause-sends : goal.returns-clause-sends
returns-clause-sends c = λ plan w v reported sendings request t head now ret room usual is may early step all.
    sends_on c plan w v reported t head now early sendings all ret request may is (drawn_so c plan w v reported t head now early ret step request room usual may is).1
