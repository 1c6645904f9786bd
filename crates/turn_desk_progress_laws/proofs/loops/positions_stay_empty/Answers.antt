use Rattle.std.proofs.Common.{◌+◌, ℕ, List, [], ◌∷◌, inl, inr}
use Rattle.turn_client_proto_api.specs.declared.event.TurnEvent.{TurnEvent}
use Rattle.turn_client_proto_step_laws.specs.Recv.ClientState.{Protocol}
use Rattle.turn_client_proto_handshake_laws.specs.Sent.{first_number, first_request}
use Rattle.turn_client_proto_messages.specs.Judging.{signer_of}
use Rattle.turn_client_proto_messages.specs.declared.request.TurnRequest.TheVariants.{FirstAllocate}
use Rattle.turn_client_proto_handshake_laws.specs.Choosing.{Choice}
use Rattle.turn_client_proto_handshake_laws.specs.Stages.{signed_queued}
use Rattle.turn_client_proto_handshake_laws.specs.Coming.{IsPartOf, IsUnserved}
use Rattle.turn_desk_event.specs.declared.answer.Answer.{Answer}
use Rattle.turn_desk_event.specs.declared.event.ClientCall.TheVariants.{PollRecv}
use Rattle.turn_desk_event.specs.declared.event.Event.TheVariants.{Call}
use Rattle.turn_desk_world_laws.specs.World.Model.{World}
use Rattle.turn_desk_world_laws.specs.World.Runs.{IsStep}
use Rattle.turn_desk_progress_laws.specs.Loops.{MayBegin, Timing}
use Rattle.turn_desk_progress_laws.specs.LoopStages.{IsStageOf, Transmits}
use Rattle.turn_desk_progress_laws.specs.Promises.{HasClient}
use Rattle.turn_desk_progress_laws.specs.Scripts.{Requested, Barred, Came, Challenged, Done, Granted, Progress, Plan, Signed, Silent, Start}
use Rattle.turn_desk_progress_laws.proofs.Clients.{Rests}
use Rattle.turn_desk_progress_laws.proofs.Coming.{none_yet, waiting_rests}
use Rattle.turn_desk_progress_laws.proofs.Indexes.{first_fits}
use Rattle.turn_desk_progress_laws.proofs.Looping.{stays_so, unserved_so}
use Rattle.turn_desk_progress_laws.proofs.loops.positions_stay_empty.Goals as goal

module _ (c : goal.After-messages_reach_clients) (plan : Plan) (old w v : World) (reported : List TurnEvent) (ret : Answer) (t : Timing) (now : ℕ) (may : MayBegin plan old) (step : IsStep (Call PollRecv now) w ret v) where
  -- Nothing of a message has come: here of the first request.
  started : IsPartOf [] (first_request plan.client)
  started = none_yet (first_request plan.client)
      (c.proof_requests_are_read.ensures.message (signer_of plan.client.config) (FirstAllocate plan.client.config.transport plan.client.config.families plan.client.config.options) (first_number plan.client)
      (c.new_clients_ask.ensures.short plan.client may.room) may.room.1 (first_fits plan.client))

  unserved : (head message : List ℕ) (Is : Protocol → Type 0) (h : HasClient plan head w Is) → IsPartOf head message → IsUnserved plan.client h.core → Rests ret w v
  unserved head message Is h part u = waiting_rests (record { waiting = c.messages_reach_clients.ensures.waiting; none_waits = c.messages_reach_clients.ensures.none_waits }) plan.client w v h.core head message now ret h.there (c.stages_are_unserved.ensures.none_waits plan.client h.core u) part step

  transmitted : (head message : List ℕ) → IsPartOf head message → (choice : Choice) (h : HasClient plan head w (Transmits plan t choice)) → Rests ret w v
  transmitted head message part choice h = unserved head message _ h part (unserved_so plan choice t.many t.sent h.core h.is c.stages_are_unserved.ensures.signing)

  at : (progress : Progress) → IsStageOf plan old reported progress t w → Rests ret w v
  at Start is = unserved [] (first_request plan.client) _ is.1.client started (c.stages_are_unserved.ensures.fresh plan.client is.1.client.core is.1.client.is)
  at (Requested request) is = unserved [] (first_request plan.client) _ is.1.client started (c.stages_are_unserved.ensures.asking plan.client t.many t.sent is.1.client.core is.1.client.is)
  at (Challenged request reply head) is = unserved head reply _ is.1.client is.1.part (c.stages_are_unserved.ensures.asking plan.client t.many t.sent is.1.client.core is.1.client.is)
  at Came (inl is) = unserved [] (first_request plan.client) _ is.1.is.client started
      (c.stages_are_unserved.ensures.signing plan.client is.1.choice 1 t.sent (signed_queued plan.client is.1.choice ∷ []) is.1.is.client.core is.1.is.client.is)
  at Came (inr is) = unserved [] (first_request plan.client) _ is.client started (c.stages_are_unserved.ensures.ended plan.client is.left is.client.core is.client.is)
  at (Signed request) is = transmitted [] (first_request plan.client) started is.1.choice is.1.is.client
  at (Granted request address lifetime reply head) is = transmitted head reply is.1.part is.1.choice is.1.client
  at (Done request address lifetime reply) is =
      waiting_rests (record { waiting = c.messages_reach_clients.ensures.waiting; none_waits = c.messages_reach_clients.ensures.none_waits }) plan.client w v is.client.core [] (first_request plan.client) now ret is.client.there
      (c.stages_are_unserved.ensures.held plan.client is.choice address lifetime t.came t.sent is.queue is.left is.client.core is.client.is) started step
  at Barred is = absurd is
  at Silent is = absurd is

pub returns : goal.returns
returns c = λ plan old w v reported ret progress t now may is step. stays_so plan old reported progress t ret w v (at c plan old w v reported ret t now may step progress is) is
