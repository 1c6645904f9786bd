use Rattle.std.proofs.Common.{ℕ, List, [], ◌∷◌, inl, inr}
use Rattle.turn_client_proto_api.specs.declared.event.TurnEvent.{TurnEvent}
use Rattle.turn_client_proto_step_laws.specs.Recv.ClientState.{Protocol}
use Rattle.turn_client_proto_handshake_laws.specs.Sent.{first_number, first_request}
use Rattle.turn_client_proto_messages.specs.Judging.{signer_of}
use Rattle.turn_client_proto_messages.specs.declared.request.TurnRequest.TheVariants.{FirstAllocate}
use Rattle.turn_client_proto_handshake_laws.specs.Choosing.{Choice}
use Rattle.turn_client_proto_handshake_laws.specs.Stages.{signed_queued}
use Rattle.turn_client_proto_handshake_laws.specs.Coming.{IsPartOf, IsUnserved}
use Rattle.turn_desk_event.specs.declared.answer.Answer.{Answer}
use Rattle.turn_desk_event.specs.declared.event.ClientCall.TheVariants.{PollRecv}
use Rattle.turn_desk_event.specs.declared.event.Event.TheVariants.{Call}
use Rattle.turn_desk_world_laws.specs.World.Model.{World}
use Rattle.turn_desk_world_laws.specs.World.Runs.{IsStep}
use Rattle.turn_desk_progress_laws.specs.Promises.{HasClient, IsFresh}
use Rattle.turn_desk_progress_laws.specs.Scripts.{Requested, Barred, Came, Challenged, Done, Granted, Progress, Plan, Signed, Silent, Start}
use Rattle.turn_desk_progress_laws.specs.Standing.{HasTransmitted, IsOver, IsAtStage}
use Rattle.turn_desk_progress_laws.proofs.Clients.{Rests}
use Rattle.turn_desk_progress_laws.proofs.Coming.{none_yet, waiting_rests}
use Rattle.turn_desk_progress_laws.proofs.Indexes.{first_fits, rests}
use Rattle.turn_desk_progress_laws.proofs.Serving.{unserved_of}
use Rattle.turn_desk_progress_laws.proofs.honest.worlds_give_nothing.Goals as goal

module _ (c : goal.After-messages_reach_clients) (plan : Plan) (old w v : World) (reported : List TurnEvent) (ret : Answer) (now : ℕ) (fresh : IsFresh plan old) (step : IsStep (Call PollRecv now) w ret v) where
  -- Nothing of a message has come: here of the first request.
  started : IsPartOf [] (first_request plan.client)
  started = none_yet (first_request plan.client)
      (c.proof_requests_are_read.ensures.message (signer_of plan.client.config) (FirstAllocate plan.client.config.transport plan.client.config.families plan.client.config.options) (first_number plan.client)
      (c.new_clients_ask.ensures.short plan.client fresh.room) fresh.room.1 (first_fits plan.client))

  unserved : (head message : List ℕ) (Is : Protocol → Type 0) (h : HasClient plan head w Is) → IsPartOf head message → IsUnserved plan.client h.core → Rests ret w v
  unserved head message Is h part u = waiting_rests (record { waiting = c.messages_reach_clients.ensures.waiting; none_waits = c.messages_reach_clients.ensures.none_waits }) plan.client w v h.core head message now ret h.there (c.stages_are_unserved.ensures.none_waits plan.client h.core u) part step

  transmitted : (head message : List ℕ) → IsPartOf head message → (choice : Choice) (h : HasClient plan head w (HasTransmitted plan choice)) → Rests ret w v
  transmitted head message part choice h = unserved head message _ h part (unserved_of plan choice h.core h.is c.stages_are_unserved.ensures.signing)

  over : IsOver plan old reported w → Rests ret w v
  over is = unserved [] (first_request plan.client) _ is.client started (c.stages_are_unserved.ensures.ended plan.client is.left is.client.core is.client.is)

  at : (progress : Progress) → IsAtStage plan old reported progress w → Rests ret w v
  at Start is = unserved [] (first_request plan.client) _ is.1.client started (c.stages_are_unserved.ensures.fresh plan.client is.1.client.core is.1.client.is)
  at (Requested request) is = unserved [] (first_request plan.client) _ is.1.client started (c.stages_are_unserved.ensures.asking plan.client 1 plan.client.made is.1.client.core is.1.client.is)
  at (Challenged request reply head) is = unserved head reply _ is.1.client is.1.part (c.stages_are_unserved.ensures.asking plan.client 1 plan.client.made is.1.client.core is.1.client.is)
  at Came (inl is) = unserved [] (first_request plan.client) _ is.1.chosen.client started
      (c.stages_are_unserved.ensures.signing plan.client is.1.choice 1 plan.client.made (signed_queued plan.client is.1.choice ∷ []) is.1.chosen.client.core is.1.chosen.client.is)
  at Came (inr is) = over is
  at (Signed request) is = transmitted [] (first_request plan.client) started is.1.choice is.1.chosen.client
  at (Granted request address lifetime reply head) is = transmitted head reply is.1.part is.1.choice is.1.client
  at (Done request address lifetime reply) is =
      waiting_rests (record { waiting = c.messages_reach_clients.ensures.waiting; none_waits = c.messages_reach_clients.ensures.none_waits }) plan.client w v is.client.core [] (first_request plan.client) now ret is.client.there
      (c.stages_are_unserved.ensures.held plan.client is.choice address lifetime plan.second plan.second is.queue is.left is.client.core is.client.is) started step
  at Barred is = over is
  at Silent is = absurd is

pub returns : goal.returns
returns c = λ plan old w v reported ret progress now fresh is step. rests plan old reported progress ret w v (at c plan old w v reported ret now fresh step progress is) is
