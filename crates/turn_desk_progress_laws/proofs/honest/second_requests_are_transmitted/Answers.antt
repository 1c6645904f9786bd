use Rattle.std.proofs.Common.{◌≡◌, ◌++◌, List, [], Option, Some, None, ap, refl, sym, ◌∙◌, subst, inl, inr}
use Rattle.std.proofs.lemmas.List.{append-nil}
use Rattle.turn_client_proto_api.specs.declared.event.TurnEvent.{TurnEvent}
use Rattle.turn_client_proto_step_laws.specs.Timers.Drawing.{IsTransmitted}
use Rattle.turn_client_proto_api.specs.Sent.{Sent, sent_of}
use Rattle.turn_client_proto_handshake_laws.specs.Sent.{Beginning}
use Rattle.turn_client_proto_step_laws.specs.Recv.ClientState.{Protocol}
use Rattle.turn_client_proto_handshake_laws.specs.Choosing.{signed_requested, signed_sent}
use Rattle.turn_desk_event.specs.declared.answer.Answer.{Answer}
use Rattle.turn_desk_event.specs.declared.answer.Answer.TheVariants as answer
use Rattle.turn_desk_core.specs.State.{State}
use Rattle.turn_desk_world_laws.specs.World.Calls.{IsTransmittedAs}
use Rattle.turn_desk_event.specs.declared.event.Event.TheVariants.{Draw}
use Rattle.turn_desk_world_laws.specs.World.Model.{World}
use Rattle.turn_desk_world_laws.specs.World.Runs.{IsStep}
use Rattle.turn_desk_progress_laws.specs.Promises.{IsFresh, control_at, event_in, over}
use Rattle.turn_desk_progress_laws.specs.Scripts.{Came, Plan, transmitted_second}
use Rattle.turn_desk_progress_laws.specs.Standing.{HasChoice, HasTransmitted, IsOver, IsUnder, IsAtStage}
use Rattle.turn_desk_progress_laws.proofs.Clients.{draws}
use Rattle.turn_desk_progress_laws.proofs.Indexes.{same_sent, untold}
use Rattle.turn_desk_progress_laws.proofs.honest.second_requests_are_transmitted.Goals as goal

module _ (c : goal.After-ended_clients_rest) (plan : Plan) (old w v : World) (reported : List TurnEvent) (fresh : IsFresh plan old) where
  -- If the challenge was answered.
  module _ (none : reported ≡ []) (is : HasChoice plan old w) where
    abbrev b : Beginning
    b = plan.client

    signs : (sent : Option Sent) (core : Protocol) → IsTransmitted is.chosen.client.core plan.second sent core → (sent ≡ Some (signed_sent b is.choice)) × HasTransmitted plan is.choice core
    signs sent core transmitted = elim (c.asking_clients_wait.ensures.cases b (signed_requested b is.choice) 1 plan.second) [
      | inl due ↦ (let s = c.chosen_clients_sign.ensures.again b is.choice 1 b.made is.chosen.client.core core plan.second sent is.chosen.client.is due transmitted in (s.0, record { used = 2; is = inl s.1 }))
      | inr quiet ↦ (
          let s = c.chosen_clients_sign.ensures.signs b is.choice 1 b.made is.chosen.client.core core plan.second sent is.chosen.client.is quiet fresh.timely.apart transmitted in (s.0, record { used = 1; is = inr s.1 }))
    ]

    chosen_draws : (ret : Answer) (core : Protocol) → v.client ≡ Some (over (control_at plan.client.transport []) core) → v.desk ≡ w.desk → IsTransmittedAs ret is.chosen.client.core plan.second core → IsAtStage plan old (reported ++ event_in ret) (transmitted_second ret) v
    unfolding IsTransmittedAs
    chosen_draws (answer.Transmit sent) core there same transmitted =
        let s = signs (Some (sent_of sent)) core transmitted in (
          untold reported [] none refl,
          record {
            choice = is.choice;
            request_is = same_sent (sent_of sent) (signed_sent plan.client is.choice) s.0;
            chosen = record {
              under = subst (λ (d : State). IsUnder plan old.desk is.choice.reported d) (sym same) is.chosen.under;
              made = is.chosen.made;
              answered = is.chosen.answered;
              client = record { core = core; there = there; is = s.1 };
            };
          },
        )
    chosen_draws answer.Nothing core there same transmitted =
        absurd (Prim.cc (signs None core transmitted).0)
    chosen_draws _ core there same transmitted = absurd transmitted

  -- If the client has ended.
  module _ (is : IsOver plan old reported w) where
    over_draws : (ret : Answer) (core : Protocol) → v.client ≡ Some (over (control_at plan.client.transport []) core) → v.desk ≡ w.desk → IsTransmittedAs ret is.client.core plan.second core → IsAtStage plan old (reported ++ event_in ret) (transmitted_second ret) v
    unfolding IsTransmittedAs
    over_draws (answer.Transmit sent) core there same transmitted = absurd (Prim.cc (c.ended_clients_rest.ensures.transmitted plan.client is.left is.client.core core plan.second (Some (sent_of sent)) is.client.is transmitted).0)
    over_draws answer.Nothing core there same transmitted =
        let s = c.ended_clients_rest.ensures.transmitted plan.client is.left is.client.core core plan.second None is.client.is transmitted in
        record {
          challenge = is.challenge;
          under = subst (λ (d : State). IsUnder plan old.desk is.challenge d) (sym same) is.under;
          barring = is.barring;
          left = is.left;
          decodes = ap (λ (l : List TurnEvent). l ++ is.left) (append-nil reported) ∙ is.decodes;
          client = record { core = is.client.core; there = there ∙ ap (λ (p : Protocol). Some (over (control_at plan.client.transport []) p)) s.1; is = is.client.is };
        }
    over_draws _ core there same transmitted = absurd transmitted

  by_case : (ret : Answer) → IsStep (Draw plan.second) w ret v → IsAtStage plan old reported Came w → IsAtStage plan old (reported ++ event_in ret) (transmitted_second ret) v
  by_case ret step (inl is) =
      let d = draws (control_at plan.client.transport []) w v is.1.chosen.client.core plan.second ret is.1.chosen.client.there fresh.timely.in_range step in
      chosen_draws is.0 is.1 ret d.core d.there d.desk d.transmitted
  by_case ret step (inr is) =
      let d = draws (control_at plan.client.transport []) w v is.client.core plan.second ret is.client.there fresh.timely.in_range step in
      over_draws is ret d.core d.there d.desk d.transmitted

pub returns : goal.returns
returns c = λ plan old w v reported ret fresh is step. by_case c plan old w v reported fresh ret step is
