use Rattle.std.proofs.Common.{◌≡◌, ◌++◌, List, [], Some, None, refl, ◌∙◌}
use Rattle.turn_client_proto_api.specs.declared.event.TurnEvent.{TurnEvent}
use Rattle.turn_client_proto_api.specs.Sent.{Sent, sent_of}
use Rattle.turn_client_proto_step_laws.specs.Recv.ClientState.{Protocol}
use Rattle.turn_client_proto_handshake_laws.specs.Sent.{first_sent}
use Rattle.turn_desk_event.specs.declared.answer.Answer.{Answer}
use Rattle.turn_desk_event.specs.declared.answer.Answer.TheVariants as answer
use Rattle.turn_desk_world_laws.specs.World.Calls.{IsTransmittedAs}
use Rattle.turn_desk_world_laws.specs.World.Model.{World}
use Rattle.turn_desk_progress_laws.specs.Loops.{Gives, MayBegin, Timing}
use Rattle.turn_desk_progress_laws.specs.LoopStages.{IsStageOf}
use Rattle.turn_desk_progress_laws.specs.Promises.{control_at, event_in, over}
use Rattle.turn_desk_progress_laws.specs.Scripts.{Plan, transmitted_first}
use Rattle.turn_desk_progress_laws.specs.Standing.{IsAtStart}
use Rattle.turn_desk_progress_laws.proofs.Clients.{draws}
use Rattle.turn_desk_progress_laws.proofs.Indexes.{same_sent, untold}
use Rattle.turn_desk_progress_laws.proofs.loops.first_draws_ask.Goals as goal

-- By what is transmitted.
module _ (c : goal.After-new_clients_ask) (plan : Plan) (old w v : World) (reported : List TurnEvent) (may : MayBegin plan old) (t : Timing) (none : reported ≡ []) (is : IsAtStart plan old w) where
  abbrev After : Answer → Type 0
  After ret = IsStageOf plan old (reported ++ event_in ret) (transmitted_first ret) (record t { many = 1; sent = plan.client.made }) v × Gives ret (λ (sent : Sent). sent ≡ first_sent plan.client)

  by_draw : (ret : Answer) (core : Protocol) → v.client ≡ Some (over (control_at plan.client.transport []) core) → v.desk ≡ w.desk → IsTransmittedAs ret is.client.core plan.client.made core → After ret
  unfolding IsTransmittedAs
  by_draw (answer.Transmit sent) core there same transmitted =
      let requested = c.new_clients_ask.ensures.transmitted plan.client is.client.core core (Some (sent_of sent)) may.room may.usual is.client.is transmitted in
      let so : sent_of sent ≡ first_sent plan.client = same_sent (sent_of sent) (first_sent plan.client) requested.0 in (
        (
          untold reported [] none refl,
          record { request_is = so; client = record { core = core; there = there; is = requested.1 }; desk_is = same ∙ is.desk_is },
        ),
        so,
      )
  by_draw answer.Nothing core there same transmitted = absurd (Prim.cc (c.new_clients_ask.ensures.transmitted plan.client is.client.core core None may.room may.usual is.client.is transmitted).0)
  by_draw _ core there same transmitted = absurd transmitted

pub returns : goal.returns
returns c = λ plan old w v reported ret t may is early step.
    let d = draws (control_at plan.client.transport []) w v is.1.client.core plan.client.made ret is.1.client.there early step in
    by_draw c plan old w v reported may t is.0 is.1 ret d.core d.there d.desk d.transmitted
