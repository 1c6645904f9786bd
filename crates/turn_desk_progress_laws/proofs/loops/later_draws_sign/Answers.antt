use Rattle.std.proofs.Common.{◌≡◌, ◌++◌, ◌<◌, ◌≤◌, ◌+◌, ◌⊎◌, ℕ, List, [], Some, None, ap, refl, sym, ◌∙◌, subst, inl, inr}
use Rattle.std.proofs.lemmas.List.{append-nil}
use Rattle.turn_desk_core.specs.StunTypesBase.declared.data.Data.{Data}
use Rattle.turn_desk_core.specs.StunTypesBase.declared.transmit.Transmit.{Transmit}
use Rattle.turn_desk_core.specs.StunTypesBase.Times.{time_after}
use Rattle.turn_client_proto_api.specs.declared.event.TurnEvent.{TurnEvent}
use Rattle.turn_client_proto_messages.specs.Api.Options.{cadence}
use Rattle.turn_client_proto_api.specs.Sent.{Sent, sent_of}
use Rattle.turn_client_proto_step_laws.specs.Recv.ClientState.{Protocol}
use Rattle.turn_client_proto_handshake_laws.specs.Choosing.{Choice, IsChoice, signed_requested, signed_sent}
use Rattle.turn_client_proto_handshake_laws.specs.Stages.{HasChosen}
use Rattle.turn_client_proto_handshake_laws.specs.Driving.{client_end}
use Rattle.turn_desk_event.specs.declared.answer.Answer.{Answer}
use Rattle.turn_desk_event.specs.declared.answer.Answer.TheVariants as answer
use Rattle.turn_desk_core.specs.State.{State}
use Rattle.turn_desk_world_laws.specs.World.Calls.{IsTransmittedAs}
use Rattle.turn_desk_event.specs.declared.event.Event.TheVariants.{Draw}
use Rattle.turn_desk_world_laws.specs.World.Model.{World}
use Rattle.turn_desk_world_laws.specs.World.Runs.{IsStep}
use Rattle.turn_desk_progress_laws.specs.Loops.{IsNoneDue, IsSecondRequest, IsSignedInTime, IsTransmissionDue, IsTransmittedAt, MayBegin, Timing, counted, transmitted_next}
use Rattle.turn_desk_progress_laws.specs.LoopStages.{HasChosenSo, IsOverSo, IsStageOf, IsTransmittedBy, Left, Queues, plan_at}
use Rattle.turn_desk_progress_laws.specs.Promises.{AreApart, control_at, event_in, over}
use Rattle.turn_desk_progress_laws.specs.Scripts.{Came, Plan}
use Rattle.turn_desk_progress_laws.specs.Standing.{IsUnder}
use Rattle.turn_desk_progress_laws.proofs.Clients.{draws}
use Rattle.turn_desk_progress_laws.proofs.Indexes.{same_sent, untold}
use Rattle.turn_desk_progress_laws.proofs.Looping.{clash, due_so, never, none_so, not_apart, second_so}
use Rattle.turn_desk_progress_laws.proofs.Serving.{of_settings}
use Rattle.turn_desk_progress_laws.proofs.Simulation.{are_apart}
use Rattle.turn_desk_progress_laws.proofs.Times.{order}
use Rattle.turn_desk_progress_laws.proofs.loops.later_draws_sign.Goals as goal

module _ (c : goal.After-ended_clients_rest) (plan : Plan) (old w v : World) (reported : List TurnEvent) (may : MayBegin plan old) (t : Timing) (now : ℕ) where
  abbrev After : Answer → Type 0
  After ret = IsStageOf plan old (reported ++ event_in ret) (transmitted_next ret) (counted now ret t) v × IsTransmittedAt plan old Came t now ret

  abbrev Early : Type 0
  Early = (now < time_after t.sent cadence) ⊎ (time_after t.sent cadence ≤ now)

  -- If the challenge was answered.
  module _ (none : reported ≡ []) (is : HasChosenSo plan old t w) where
    abbrev choice : Choice
    choice = is.choice

    abbrev Due : Type 0
    Due = IsTransmissionDue plan choice.made 1 now ⊎ IsNoneDue plan choice.made 1 now

    choice_is : IsChoice plan.client choice
    choice_is = is.is.client.is.choice

    apart : AreApart plan.client.config old.desk.auth → ⊥
    apart = not_apart plan old t.challenged choice w.desk is.is.under is.is.answered

    second : (sent : Sent) → sent ≡ signed_sent plan.client choice → IsSecondRequest plan old sent
    second sent so = subst (λ (r : Sent). IsSecondRequest plan old r) (sym so)
        (second_so plan old t.challenged choice w.desk is.is.under is.is.answered (c.signed_allocates_answer.ensures.request plan.client choice may.room may.text choice_is))

    under_so : v.desk ≡ w.desk → IsUnder (plan_at plan t.challenged) old.desk choice.reported v.desk
    under_so same = subst (λ (d : State). IsUnder (plan_at plan t.challenged) old.desk choice.reported d) (sym same) is.is.under

    -- If the request is transmitted: it was due, or it is time.
    module _ (message : Transmit Data) (core : Protocol) (there : v.client ≡ Some (over (control_at plan.client.transport []) core)) (same : v.desk ≡ w.desk) (so : sent_of message ≡ signed_sent plan.client choice)
        (by : IsTransmittedBy plan choice 1 now core) where
      stage : IsStageOf plan old (reported ++ event_in (answer.Transmit message)) (transmitted_next (answer.Transmit message)) (counted now (answer.Transmit message) t) v
      stage = (
        untold reported [] none refl,
        record {
          choice = choice;
          request_is = so;
          is = record {
            under = under_so same;
            made = is.is.made;
            answered = is.is.answered;
            client = record { core = core; there = there; is = subst (λ (m : ℕ). IsTransmittedBy plan choice (m + 1) now core) (sym is.none_sent) by };
          };
        },
      )

      sends : ((now < time_after t.sent cadence) → IsNoneDue plan choice.made 1 now → ⊥) → After (answer.Transmit message)
      sends never_rests = (
        stage,
        (
          λ (no : AreApart plan.client.config old.desk.auth). absurd (apart no),
          λ (other : AreApart plan.client.config old.desk.auth → ⊥). record {
            signs = λ late. second (sent_of message) so;
            again = λ due. second (sent_of message) so;
            rests = λ early quiet. absurd (never_rests early (none_so plan choice.made t.came 1 now is.is.made quiet));
          },
        ),
      )

    by_draw : (ret : Answer) (core : Protocol) → v.client ≡ Some (over (control_at plan.client.transport []) core) → v.desk ≡ w.desk → IsTransmittedAs ret is.is.client.core now core → Due → Early → After ret
    unfolding IsTransmittedAs
    by_draw (answer.Transmit message) core there same transmitted (inl due) early =
        let s = c.chosen_clients_sign.ensures.again plan.client choice 1 t.sent is.is.client.core core now (Some (sent_of message)) is.is.client.is due transmitted in
        sends message core there same (same_sent (sent_of message) (signed_sent plan.client choice) s.0) (Queues due s.1) (λ soon quiet. clash plan choice.made 1 now due quiet)
    by_draw (answer.Transmit message) core there same transmitted (inr quiet) (inl early) =
        absurd (Prim.cc (c.chosen_clients_sign.ensures.rests plan.client choice 1 t.sent is.is.client.core core now (Some (sent_of message)) is.is.client.is quiet early transmitted).0)
    by_draw (answer.Transmit message) core there same transmitted (inr quiet) (inr late) =
        let s = c.chosen_clients_sign.ensures.signs plan.client choice 1 t.sent is.is.client.core core now (Some (sent_of message)) is.is.client.is quiet late transmitted in
        sends message core there same (same_sent (sent_of message) (signed_sent plan.client choice) s.0) (Left s.1) (λ soon none. never now (time_after t.sent cadence) soon late)
    by_draw answer.Nothing core there same transmitted (inl due) early =
        absurd (Prim.cc (c.chosen_clients_sign.ensures.again plan.client choice 1 t.sent is.is.client.core core now None is.is.client.is due transmitted).0)
    by_draw answer.Nothing core there same transmitted (inr quiet) (inl early) =
        let s = c.chosen_clients_sign.ensures.rests plan.client choice 1 t.sent is.is.client.core core now None is.is.client.is quiet early transmitted in (
          inl (
            untold reported [] none refl,
            record {
              none_sent = is.none_sent;
              choice = choice;
              is = record {
                under = under_so same;
                made = is.is.made;
                answered = is.is.answered;
                client = record { core = core; there = there; is = subst (λ (p : Protocol). HasChosen plan.client choice 1 t.sent p) (sym s.1) is.is.client.is };
              };
            },
          ),
          (
            λ (no : AreApart plan.client.config old.desk.auth). absurd (apart no),
            λ (other : AreApart plan.client.config old.desk.auth → ⊥). record {
              signs = λ late. never now (time_after t.sent cadence) early late;
              again = λ due. clash plan choice.made 1 now (due_so plan choice.made t.came 1 now is.is.made due) quiet;
              rests = λ soon none. refl;
            },
          ),
        )
    by_draw answer.Nothing core there same transmitted (inr quiet) (inr late) =
        absurd (Prim.cc (c.chosen_clients_sign.ensures.signs plan.client choice 1 t.sent is.is.client.core core now None is.is.client.is quiet late transmitted).0)
    by_draw _ core there same transmitted due early = absurd transmitted

  -- If the client has ended.
  module _ (is : IsOverSo plan old reported t w) where
    over_draws : (ret : Answer) (core : Protocol) → v.client ≡ Some (over (control_at plan.client.transport []) core) → v.desk ≡ w.desk → IsTransmittedAs ret is.client.core now core → After ret
    unfolding IsTransmittedAs
    over_draws (answer.Transmit message) core there same transmitted = absurd (Prim.cc (c.ended_clients_rest.ensures.transmitted plan.client is.left is.client.core core now (Some (sent_of message)) is.client.is transmitted).0)
    over_draws answer.Nothing core there same transmitted =
        let s = c.ended_clients_rest.ensures.transmitted plan.client is.left is.client.core core now None is.client.is transmitted in
        let differ : AreApart plan.client.config old.desk.auth = are_apart plan.client.config old.desk.auth is.challenge (of_settings (plan_at plan t.challenged) old.desk w.desk is.challenge is.under) is.barring in (
          inr (record {
            challenge = is.challenge;
            under = subst (λ (d : State). IsUnder (plan_at plan t.challenged) old.desk is.challenge d) (sym same) is.under;
            barring = is.barring;
            left = is.left;
            decodes = ap (λ (l : List TurnEvent). l ++ is.left) (append-nil reported) ∙ is.decodes;
            client = record { core = is.client.core; there = there ∙ ap (λ (p : Protocol). Some (over (control_at plan.client.transport []) p)) s.1; is = is.client.is };
          }),
          (λ (no : AreApart plan.client.config old.desk.auth). refl, λ (other : AreApart plan.client.config old.desk.auth → ⊥). absurd (other differ)),
        )
    over_draws _ core there same transmitted = absurd transmitted

  by_case : (ret : Answer) → now ≤ client_end → IsStep (Draw now) w ret v → IsStageOf plan old reported Came t w → After ret
  by_case ret early step (inl is) =
      let d = draws (control_at plan.client.transport []) w v is.1.is.client.core now ret is.1.is.client.there early step in
      by_draw is.0 is.1 ret d.core d.there d.desk d.transmitted (c.asking_clients_wait.ensures.cases plan.client (signed_requested plan.client is.1.choice) 1 now) (order now (time_after t.sent cadence))
  by_case ret early step (inr is) =
      let d = draws (control_at plan.client.transport []) w v is.client.core now ret is.client.there early step in
      over_draws is ret d.core d.there d.desk d.transmitted

pub returns : goal.returns
returns c = λ plan old w v reported ret t now may is early step. by_case c plan old w v reported may t now ret early step is
