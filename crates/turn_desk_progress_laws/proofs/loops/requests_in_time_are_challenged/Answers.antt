use Rattle.std.proofs.Common.{◌≡◌, ◌++◌, ℕ, List, [], ap, refl, ◌∙◌, subst}
use Rattle.turn_client_proto_api.specs.declared.event.TurnEvent.{TurnEvent}
use Rattle.turn_client_proto_api.specs.Sent.{Sent}
use Rattle.turn_client_proto_handshake_laws.specs.Sent.{first_number, first_request}
use Rattle.turn_client_proto_messages.specs.Judging.{signer_of}
use Rattle.turn_client_proto_messages.specs.declared.request.TurnRequest.TheVariants.{FirstAllocate}
use Rattle.turn_desk_event.specs.declared.answer.Answer.{Answer}
use Rattle.turn_desk_event.specs.declared.answer.Answer.TheVariants as answer
use Rattle.turn_desk_core.specs.declared.decision.Decision.{Decision}
use Rattle.turn_desk_step_laws.proofs.Requesting.{is_served_first}
use Rattle.turn_desk_core.specs.State.{State}
use Rattle.turn_desk_world_laws.specs.World.Desks.{IsDeskAnswered, IsReply, words_of}
use Rattle.turn_desk_world_laws.specs.World.Model.{World}
use Rattle.turn_desk_progress_laws.specs.Loops.{MayBegin, Timing}
use Rattle.turn_desk_progress_laws.specs.LoopStages.{IsRequestedSo, IsStageOf}
use Rattle.turn_desk_progress_laws.specs.Promises.{event_in}
use Rattle.turn_desk_progress_laws.specs.Scripts.{Plan, replied_first}
use Rattle.turn_desk_progress_laws.proofs.Coming.{none_yet}
use Rattle.turn_desk_progress_laws.proofs.Indexes.{first_fits, is_message, untold}
use Rattle.turn_desk_progress_laws.proofs.loops.requests_in_time_are_challenged.Goals as goal

-- By what the server core replies.
module _ (c : goal.After-first_requests_are_challenged) (plan : Plan) (old w v : World) (reported : List TurnEvent) (may : MayBegin plan old) (t : Timing) (none : reported ≡ []) (request : Sent) (is : IsRequestedSo plan old t request w)
    (now : ℕ) (decision : Decision) (seed : List ℕ) (client : v.client ≡ w.client) where
  by_reply : (ret : Answer) → IsReply ret old.desk (first_request plan.client) plan.client.here now decision seed v.desk → IsStageOf plan old (reported ++ event_in ret) (replied_first request ret) (record t { challenged = now }) v
  by_reply (answer.Reply reply) replied = (
    untold reported [] none refl,
    record {
      request_is = is.request_is;
      client = record { core = is.client.core; there = client ∙ is.client.there; is = is.client.is };
      part = none_yet reply.items (is_message old.desk v.desk plan.client.here (first_request plan.client) reply.items now seed decision replied.answer);
      challenge = c.first_requests_are_challenged.ensures old.desk v.desk plan.client.here (signer_of plan.client.config) plan.client.config.transport plan.client.config.families plan.client.config.options (first_number plan.client) now
          (words_of seed) decision reply.items (c.new_clients_ask.ensures.short plan.client may.room) may.room.1 (first_fits plan.client) may.unknown replied.answer;
    },
  )
  by_reply answer.Nothing replied =
      absurd (replied.0 (is_served_first (signer_of plan.client.config) plan.client.config.transport plan.client.config.families plan.client.config.options (first_number plan.client)
      (c.proof_requests_are_read.ensures.read (signer_of plan.client.config) (FirstAllocate plan.client.config.transport plan.client.config.families plan.client.config.options) (first_number plan.client)
      (c.new_clients_ask.ensures.short plan.client may.room) may.room.1 (first_fits plan.client))))
  by_reply _ replied = absurd replied

pub returns : goal.returns
returns c = λ plan old w v reported ret t request bytes now decision seed may is same step.
    let at = subst (λ (d : State). IsDeskAnswered ret d bytes.items request.from now decision seed v.desk) is.1.desk_is step.0 in
    let of = subst (λ (r : Sent). IsDeskAnswered ret old.desk r.bytes r.from now decision seed v.desk) is.1.request_is
    (subst (λ (b : List ℕ). IsDeskAnswered ret old.desk b request.from now decision seed v.desk) same at) in
    by_reply c plan old w v reported may t is.0 request is.1 now decision seed (ap (λ (x : World). x.client) step.1) ret of.reply
