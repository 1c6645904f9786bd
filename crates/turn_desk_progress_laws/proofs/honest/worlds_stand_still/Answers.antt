use Rattle.std.proofs.Common.{◌≡◌, ◌++◌, ◌<◌, ℕ, List, [], ◌∷◌, sym, ◌∙◌, subst, inl, inr}
use Rattle.std.specs.declared.net.socket_addr.SocketAddr.{SocketAddr}
use Rattle.turn_desk_event.specs.StunProtoTransaction.Schedule.{end_at}
use Rattle.turn_client_proto_api.specs.declared.event.TurnEvent.{TurnEvent}
use Rattle.turn_client_proto_api.specs.Sent.{Sent}
use Rattle.turn_client_proto_step_laws.specs.Recv.ClientState.{Protocol}
use Rattle.turn_client_proto_handshake_laws.specs.Choosing.{Choice}
use Rattle.turn_client_proto_handshake_laws.specs.Stages.{HasEnded, Holds, IsAsking, signed_queued}
use Rattle.turn_desk_event.specs.declared.answer.Answer.{Answer}
use Rattle.turn_desk_event.specs.declared.event.ClientCall.{ClientCall}
use Rattle.turn_desk_event.specs.declared.event.ClientCall.TheVariants.{Poll}
use Rattle.turn_desk_event.specs.declared.event.Event.TheVariants.{Call}
use Rattle.turn_desk_core.specs.State.{State}
use Rattle.turn_desk_world_laws.specs.World.Model.{World}
use Rattle.turn_desk_world_laws.specs.World.Runs.{IsStep}
use Rattle.turn_desk_progress_laws.specs.Promises.{HasClient, control_at, event_in}
use Rattle.turn_desk_progress_laws.specs.Scripts.{IsLook, IsPolledAt, Plan, Progress, Start, Requested, Challenged, Came, Signed, Granted, Done, Barred, Silent}
use Rattle.turn_desk_progress_laws.specs.Standing.{Chooses, HasTransmitted, IsHeld, IsOver, IsUnder, IsAtStage}
use Rattle.turn_desk_progress_laws.proofs.Clients.{IsLooked, IsLookedOn, Rests, Still, Took, look_rests, looks, poll_rests, same_desk}
use Rattle.turn_desk_progress_laws.proofs.Indexes.{rests, reports_on, reports_still}
use Rattle.turn_desk_progress_laws.proofs.Serving.{granting_on}
use Rattle.turn_desk_progress_laws.proofs.honest.worlds_stand_still.Goals as goal

module _ (c : goal.After-stages_are_reported) (plan : Plan) (old w v : World) (reported : List TurnEvent) (ret : Answer) where
  -- ---- looks

  module _ (what : ClientCall) (now : ℕ) (look : IsLook what) (step : IsStep (Call what now) w ret v) where
    asking_looks : (head : List ℕ) → HasClient plan head w (λ p. IsAsking plan.client 1 plan.client.made p) → Rests ret w v
    asking_looks head h = look_rests (control_at plan.client.transport head) w v h.core what now ret h.there (λ event q taken. c.stages_are_reported.ensures.asking plan.client 1 plan.client.made h.core q event h.is taken) look step

    chosen_looks : (choice : Choice) → HasClient plan [] w (Chooses plan choice) → Rests ret w v
    chosen_looks choice h =
        look_rests (control_at plan.client.transport []) w v h.core what now ret h.there (λ event q taken. c.stages_are_reported.ensures.signing plan.client choice 1 plan.client.made (signed_queued plan.client choice ∷ []) h.core q event h.is taken) look step

    signed_looks : (choice : Choice) (head : List ℕ) → HasClient plan head w (HasTransmitted plan choice) → Rests ret w v
    signed_looks choice head h = elim h.is.is [
      | inl is ↦
          look_rests (control_at plan.client.transport head) w v h.core what now ret h.there (λ event q taken. c.stages_are_reported.ensures.signing plan.client choice h.is.used plan.second (signed_queued plan.client choice ∷ []) h.core q event is taken) look step
      | inr is ↦ look_rests (control_at plan.client.transport head) w v h.core what now ret h.there (λ event q taken. c.stages_are_reported.ensures.signing plan.client choice h.is.used plan.second [] h.core q event is taken) look step
    ]

    over_looks : IsOver plan old reported w → IsOver plan old (reported ++ event_in ret) v
    over_looks is = let l = looks (control_at plan.client.transport []) w v is.client.core what now ret is.client.there look step in by l l.looked
      where
        by : (l : IsLookedOn (control_at plan.client.transport []) is.client.core ret w v) → IsLooked is.client.core ret l.core → IsOver plan old (reported ++ event_in ret) v
        by l (Took event taken said) =
            let e = c.ended_clients_rest.ensures.reported plan.client is.left is.client.core l.core event is.client.is taken in
            record {
              challenge = is.challenge;
              under = subst (λ (d : State). IsUnder plan old.desk is.challenge d) (sym (same_desk w v l.of)) is.under;
              barring = is.barring;
              left = e.0;
              decodes = reports_on reported ret event is.left e.0 said e.1 ∙ is.decodes;
              client = record { core = l.core; there = l.there; is = e.2 };
            }
        by l (Still same silent) = record {
          challenge = is.challenge;
          under = subst (λ (d : State). IsUnder plan old.desk is.challenge d) (sym (same_desk w v l.of)) is.under;
          barring = is.barring;
          left = is.left;
          decodes = reports_still reported ret is.left silent ∙ is.decodes;
          client = record { core = l.core; there = l.there; is = subst (λ (q : Protocol). HasEnded plan.client is.left q) (sym same) is.client.is };
        }

    held_looks : (request : Sent) (address : SocketAddr) (lifetime : ℕ) (reply : List ℕ) → IsHeld plan old reported request address lifetime reply w → IsHeld plan old (reported ++ event_in ret) request address lifetime reply v
    held_looks request address lifetime reply is = let l = looks (control_at plan.client.transport []) w v is.client.core what now ret is.client.there look step in by l l.looked
      where
        by : (l : IsLookedOn (control_at plan.client.transport []) is.client.core ret w v) → IsLooked is.client.core ret l.core → IsHeld plan old (reported ++ event_in ret) request address lifetime reply v
        by l (Took event taken said) =
            let e = c.stages_are_reported.ensures.held plan.client is.choice address lifetime plan.second plan.second is.queue is.left is.client.core l.core event is.client.is taken in
            record {
              choice = is.choice;
              is = granting_on plan old w v is.choice request address lifetime reply (same_desk w v l.of) is.is;
              queue = is.queue;
              left = e.0;
              decodes = reports_on reported ret event is.left e.0 said e.1 ∙ is.decodes;
              client = record { core = l.core; there = l.there; is = e.2 };
            }
        by l (Still same silent) = record {
          choice = is.choice;
          is = granting_on plan old w v is.choice request address lifetime reply (same_desk w v l.of) is.is;
          queue = is.queue;
          left = is.left;
          decodes = reports_still reported ret is.left silent ∙ is.decodes;
          client = record {
            core = l.core;
            there = l.there;
            is = subst (λ (q : Protocol). Holds plan.client is.choice address lifetime plan.second plan.second is.queue is.left q) (sym same) is.client.is;
          };
        }

    looks_at : (progress : Progress) → IsAtStage plan old reported progress w → IsAtStage plan old (reported ++ event_in ret) progress v
    looks_at Start is =
        rests plan old reported Start ret w v (look_rests (control_at plan.client.transport []) w v is.1.client.core what now ret is.1.client.there (λ event q taken. c.stages_are_reported.ensures.fresh plan.client is.1.client.core q event is.1.client.is taken) look step) is
    looks_at (Requested request) is = rests plan old reported (Requested request) ret w v (asking_looks [] is.1.client) is
    looks_at (Challenged request reply head) is = rests plan old reported (Challenged request reply head) ret w v (asking_looks head is.1.client) is
    looks_at Came (inl is) = rests plan old reported Came ret w v (chosen_looks is.1.choice is.1.chosen.client) (inl is)
    looks_at Came (inr is) = inr (over_looks is)
    looks_at (Signed request) is = rests plan old reported (Signed request) ret w v (signed_looks is.1.choice [] is.1.chosen.client) is
    looks_at (Granted request address lifetime reply head) is = rests plan old reported (Granted request address lifetime reply head) ret w v (signed_looks is.1.choice head is.1.client) is
    looks_at (Done request address lifetime reply) is = held_looks request address lifetime reply is
    looks_at Barred is = over_looks is
    looks_at Silent is = absurd is

  -- ---- polls

  module _ (now : ℕ) (before : now < end_at plan.client.made plan.client.config.waits) (step : IsStep (Call Poll now) w ret v) where
    asking_polls : (head : List ℕ) → HasClient plan head w (λ p. IsAsking plan.client 1 plan.client.made p) → Rests ret w v
    asking_polls head h = poll_rests (control_at plan.client.transport head) w v h.core now ret h.there (λ r q polled. (c.asking_clients_wait.ensures.polled plan.client 1 plan.client.made h.core q now r h.is before polled).unchanged) step

    before_end : (choice : Choice) → choice.made ≡ plan.client.made → now < end_at choice.made plan.client.config.waits
    before_end choice made = subst (λ (m : ℕ). now < end_at m plan.client.config.waits) (sym made) before

    chosen_polls : (choice : Choice) → choice.made ≡ plan.client.made → HasClient plan [] w (Chooses plan choice) → Rests ret w v
    chosen_polls choice made h =
        poll_rests (control_at plan.client.transport []) w v h.core now ret h.there (λ r q polled. (c.chosen_clients_sign.ensures.polled plan.client choice 1 plan.client.made h.core q now r h.is (before_end choice made) polled).unchanged) step

    signed_polls : (choice : Choice) → choice.made ≡ plan.client.made → (head : List ℕ) → HasClient plan head w (HasTransmitted plan choice) → Rests ret w v
    signed_polls choice made head h = elim h.is.is [
      | inl is ↦
          poll_rests (control_at plan.client.transport head) w v h.core now ret h.there (λ r q polled. (c.chosen_clients_sign.ensures.polled plan.client choice h.is.used plan.second h.core q now r is (before_end choice made) polled).unchanged) step
      | inr is ↦
          poll_rests (control_at plan.client.transport head) w v h.core now ret h.there (λ r q polled. (c.signed_clients_wait.ensures.polled plan.client choice h.is.used plan.second h.core q now r is (before_end choice made) polled).unchanged) step
    ]

    over_polls : IsOver plan old reported w → Rests ret w v
    over_polls is = poll_rests (control_at plan.client.transport []) w v is.client.core now ret is.client.there (λ r q polled. (c.ended_clients_rest.ensures.polled plan.client is.left is.client.core q now r is.client.is polled).1) step

    polls_at : (progress : Progress) → IsPolledAt progress → IsAtStage plan old reported progress w → IsAtStage plan old (reported ++ event_in ret) progress v
    polls_at Start at is =
        rests plan old reported Start ret w v (poll_rests (control_at plan.client.transport []) w v is.1.client.core now ret is.1.client.there (λ r q polled. (c.new_clients_ask.ensures.polled plan.client is.1.client.core q now r is.1.client.is polled).1) step) is
    polls_at (Requested request) at is = rests plan old reported (Requested request) ret w v (asking_polls [] is.1.client) is
    polls_at (Challenged request reply head) at is = rests plan old reported (Challenged request reply head) ret w v (asking_polls head is.1.client) is
    polls_at Came at (inl is) = rests plan old reported Came ret w v (chosen_polls is.1.choice is.1.chosen.made is.1.chosen.client) (inl is)
    polls_at Came at (inr is) = rests plan old reported Came ret w v (over_polls is) (inr is)
    polls_at (Signed request) at is = rests plan old reported (Signed request) ret w v (signed_polls is.1.choice is.1.chosen.made [] is.1.chosen.client) is
    polls_at (Granted request address lifetime reply head) at is =
        rests plan old reported (Granted request address lifetime reply head) ret w v (signed_polls is.1.choice is.1.is.made head is.1.client) is
    polls_at (Done request address lifetime reply) at is = absurd at
    polls_at Barred at is = rests plan old reported Barred ret w v (over_polls is) is
    polls_at Silent at is = absurd is

pub returns-clause-looks : goal.returns-clause-looks
returns-clause-looks c = λ plan old w v reported ret progress what now is look step. looks_at c plan old w v reported ret what now look step progress is

pub returns-clause-polls : goal.returns-clause-polls
returns-clause-polls c = λ plan old w v reported ret progress now is at before step. polls_at c plan old w v reported ret now before step progress at is
