use Rattle.std.proofs.Common.{◌≡◌, ◌++◌, List, [], Some, None, refl, ◌∙◌}
use Rattle.turn_client_proto_api.specs.declared.event.TurnEvent.{TurnEvent}
use Rattle.turn_client_proto_api.specs.Sent.{sent_of}
use Rattle.turn_client_proto_step_laws.specs.Recv.ClientState.{Protocol}
use Rattle.turn_client_proto_handshake_laws.specs.Requested.{sent_of as requested_sent}
use Rattle.turn_client_proto_handshake_laws.specs.Stages.{first_requested}
use Rattle.turn_desk_event.specs.declared.answer.Answer.{Answer}
use Rattle.turn_desk_event.specs.declared.answer.Answer.TheVariants as answer
use Rattle.turn_desk_world_laws.specs.World.Calls.{IsTransmittedAs}
use Rattle.turn_desk_world_laws.specs.World.Model.{World}
use Rattle.turn_desk_progress_laws.specs.Promises.{IsFresh, control_at, event_in, over}
use Rattle.turn_desk_progress_laws.specs.Scripts.{Plan, transmitted_first}
use Rattle.turn_desk_progress_laws.specs.Standing.{IsAtStart, IsAtStage}
use Rattle.turn_desk_progress_laws.proofs.Clients.{draws}
use Rattle.turn_desk_progress_laws.proofs.Indexes.{first_in_range, same_sent, untold}
use Rattle.turn_desk_progress_laws.proofs.honest.first_requests_are_transmitted.Goals as goal

-- By what is transmitted.
module _ (c : goal.After-new_clients_ask) (plan : Plan) (old w v : World) (reported : List TurnEvent) (fresh : IsFresh plan old) (none : reported ≡ []) (is : IsAtStart plan old w) where
  by_draw : (ret : Answer) (core : Protocol) → v.client ≡ Some (over (control_at plan.client.transport []) core) → v.desk ≡ w.desk → IsTransmittedAs ret is.client.core plan.client.made core → IsAtStage plan old (reported ++ event_in ret) (transmitted_first ret) v
  unfolding IsTransmittedAs
  by_draw (answer.Transmit sent) core there same transmitted =
      let requested = c.new_clients_ask.ensures.transmitted plan.client is.client.core core (Some (sent_of sent)) fresh.room fresh.usual is.client.is transmitted in (
        untold reported [] none refl,
        record {
          request_is = same_sent (sent_of sent) (requested_sent plan.client (first_requested plan.client)) requested.0;
          client = record { core = core; there = there; is = requested.1 };
          desk_is = same ∙ is.desk_is;
        },
      )
  by_draw answer.Nothing core there same transmitted = absurd (Prim.cc (c.new_clients_ask.ensures.transmitted plan.client is.client.core core None fresh.room fresh.usual is.client.is transmitted).0)
  by_draw _ core there same transmitted = absurd transmitted

pub returns : goal.returns
returns c = λ plan old w v reported ret fresh is step.
    let d = draws (control_at plan.client.transport []) w v is.1.client.core plan.client.made ret is.1.client.there (first_in_range plan fresh.timely) step in
    by_draw c plan old w v reported fresh is.0 is.1 ret d.core d.there d.desk d.transmitted
