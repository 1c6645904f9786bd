use Rattle.std.proofs.Common.{◌≡◌, ◌++◌, ℕ, List, [], ◌∷◌, Some, refl, sym, ap, ◌∙◌, subst}
use Rattle.std.specs.Prelude.{Vec}
use Rattle.std.specs.declared.alloc.Global.{Global}
use Rattle.std.specs.declared.net.socket_addr.SocketAddr.{SocketAddr}
use Rattle.turn_client_proto_api.specs.declared.event.TurnEvent.{TurnEvent}
use Rattle.turn_client_proto_step_laws.specs.Recv.ClientState.{Protocol}
use Rattle.turn_client_proto_handshake_laws.specs.Coming.{IsPartOf, IsUnserved}
use Rattle.turn_client_proto_handshake_laws.specs.Stages.{HasEnded}
use Rattle.turn_desk_core.specs.State.{State}
use Rattle.turn_desk_core.specs.declared.decision.Decision.{Decision}
use Rattle.turn_desk_event.specs.declared.answer.Answer.{Answer}
use Rattle.turn_desk_event.specs.declared.answer.Answer.TheVariants as answer
use Rattle.turn_desk_event.specs.declared.event.ClientCall.{ClientCall}
use Rattle.turn_desk_event.specs.declared.event.ClientCall.TheVariants.{PollRecv}
use Rattle.turn_desk_event.specs.declared.event.Event.TheVariants.{Call, ToDesk}
use Rattle.turn_desk_world_laws.specs.World.Desks.{IsReply}
use Rattle.turn_desk_world_laws.specs.World.Model.{World}
use Rattle.turn_desk_world_laws.specs.World.Runs.{IsStep}
use Rattle.turn_desk_progress_laws.specs.Loops.{Timing}
use Rattle.turn_desk_progress_laws.specs.Promises.{HasClient, control_at, event_in}
use Rattle.turn_desk_progress_laws.specs.Scripts.{IsLook, Plan}
use Rattle.turn_desk_progress_laws.proofs.Clients.{IsLooked, IsLookedOn, Rests, Still, Took, look_rests, looks}
use Rattle.turn_desk_progress_laws.proofs.Coming.{waiting_rests}
use Rattle.turn_desk_progress_laws.proofs.Indexes.{reports_on, reports_still}
use Rattle.turn_desk_laws.specs.Unanswered.{HasTimedOut, RequestState, Unmade, Outstanding, TimedOut}
use Rattle.turn_desk_laws.specs.UnansweredStages.{IsStageOf}
use Rattle.turn_desk_laws.proofs.UnansweredStaying.{rests_so, same_client}
use Rattle.turn_desk_laws.proofs.unanswered.unanswered_clients_stay.Goals as goal

module _ (c : goal.After-messages_reach_clients) (plan : Plan) (w v : World) (reported : List TurnEvent) (t : Timing) (head : List ℕ) (now : ℕ) (ret : Answer) where
  -- ---- looks

  module _ (what : ClientCall) (look : IsLook what) (step : IsStep (Call what now) w ret v) where
    ended_looks : HasTimedOut plan reported head w → HasTimedOut plan (reported ++ event_in ret) head v
    ended_looks is = let l = looks (control_at plan.client.transport head) w v is.client.core what now ret is.client.there look step in by l l.looked
      where
        by : (l : IsLookedOn (control_at plan.client.transport head) is.client.core ret w v) → IsLooked is.client.core ret l.core → HasTimedOut plan (reported ++ event_in ret) head v
        by l (Took event taken said) =
            let e = c.ended_clients_rest.ensures.reported plan.client is.left is.client.core l.core event is.client.is taken in
            record { left = e.0; decodes = reports_on reported ret event is.left e.0 said e.1 ∙ is.decodes; client = record { core = l.core; there = l.there; is = e.2 } }
        by l (Still same silent) = record {
          left = is.left;
          decodes = reports_still reported ret is.left silent ∙ is.decodes;
          client = record { core = l.core; there = l.there; is = subst (λ (q : Protocol). HasEnded plan.client is.left q) (sym same) is.client.is };
        }

    looks_at : (request : RequestState) → IsStageOf plan reported request t head w → IsStageOf plan (reported ++ event_in ret) request t head v
    looks_at Unmade is =
        rests_so plan reported Unmade t head ret w v
        (look_rests (control_at plan.client.transport head) w v is.client.core what now ret is.client.there (λ event q taken. c.stages_are_reported.ensures.fresh plan.client is.client.core q event is.client.is taken) look step) is
    looks_at Outstanding is =
        rests_so plan reported Outstanding t head ret w v
        (look_rests (control_at plan.client.transport head) w v is.client.core what now ret is.client.there (λ event q taken. c.stages_are_reported.ensures.asking plan.client t.many t.sent is.client.core q event is.client.is taken) look step) is
    looks_at TimedOut is = ended_looks is

  -- ---- `poll_recv`

  module _ (message : List ℕ) (part : IsPartOf head message) (step : IsStep (Call PollRecv now) w ret v) where
    receives : (Is : Protocol → Type 0) (h : HasClient plan head w Is) → IsUnserved plan.client h.core → Rests ret w v
    receives Is h u = waiting_rests (record { waiting = c.messages_reach_clients.ensures.waiting; none_waits = c.messages_reach_clients.ensures.none_waits }) plan.client w v h.core head message now ret h.there (c.stages_are_unserved.ensures.none_waits plan.client h.core u) part step

    receives_at : (request : RequestState) → IsStageOf plan reported request t head w → Rests ret w v
    receives_at Unmade is = receives _ is.client (c.stages_are_unserved.ensures.fresh plan.client is.client.core is.client.is)
    receives_at Outstanding is = receives _ is.client (c.stages_are_unserved.ensures.asking plan.client t.many t.sent is.client.core is.client.is)
    receives_at TimedOut is = receives _ is.client (c.stages_are_unserved.ensures.ended plan.client is.left is.client.core is.client.is)

-- The server core reports no event.
served_silent : (ret : Answer) (old : State) (bytes : List ℕ) (from : SocketAddr) (now : ℕ) (decision : Decision) (seed : List ℕ) (new : State) → IsReply ret old bytes from now decision seed new → event_in ret ≡ []
served_silent (answer.Reply reply) old bytes from now decision seed new is = refl
served_silent answer.Nothing old bytes from now decision seed new is = refl
served_silent _ old bytes from now decision seed new is = absurd is

pub returns-clause-looks : goal.returns-clause-looks
returns-clause-looks c = λ plan w v reported request t head what now ret is look step. looks_at c plan w v reported t head now ret what look step request is

pub returns-clause-receives : goal.returns-clause-receives
returns-clause-receives c = λ plan w v reported request t head message now ret is part step. rests_so plan reported request t head ret w v (receives_at c plan w v reported t head now ret message part step request is) is

pub returns-clause-serves : goal.returns-clause-serves
returns-clause-serves c = λ plan w v reported request t head bytes from now decision seed ret is step.
    same_client plan reported request t head ret w v (ap (λ (x : World). x.client) step.1) (served_silent ret w.desk bytes.items from now decision seed v.desk step.0.reply) is
