use Rattle.std.proofs.Common.{◌≡◌, ◌++◌, ℕ, List, [], ap, refl, ◌∙◌, subst}
use Rattle.turn_client_proto_api.specs.declared.event.TurnEvent.{TurnEvent}
use Rattle.turn_client_proto_api.specs.Sent.{Sent}
use Rattle.turn_client_proto_handshake_laws.specs.Sent.{first_number, first_request}
use Rattle.turn_client_proto_messages.specs.Judging.{signer_of}
use Rattle.turn_client_proto_messages.specs.declared.request.TurnRequest.TheVariants.{FirstAllocate}
use Rattle.turn_desk_event.specs.declared.answer.Answer.{Answer}
use Rattle.turn_desk_event.specs.declared.answer.Answer.TheVariants as answer
use Rattle.turn_desk_core.specs.declared.decision.Decision.{Decision}
use Rattle.turn_desk_step_laws.proofs.Requesting.{is_served_first}
use Rattle.turn_desk_core.specs.State.{State}
use Rattle.turn_desk_world_laws.specs.World.Desks.{IsDeskAnswered, IsReply, words_of}
use Rattle.turn_desk_world_laws.specs.World.Model.{World}
use Rattle.turn_desk_progress_laws.specs.Promises.{IsFresh, event_in}
use Rattle.turn_desk_progress_laws.specs.Scripts.{Plan, replied_first}
use Rattle.turn_desk_progress_laws.specs.Standing.{IsRequested, IsAtStage}
use Rattle.turn_desk_progress_laws.proofs.Coming.{none_yet}
use Rattle.turn_desk_progress_laws.proofs.Indexes.{is_message, untold}
use Rattle.turn_desk_progress_laws.proofs.Coming.{none_yet}
use Rattle.turn_desk_progress_laws.proofs.Indexes.{first_fits}
use Rattle.turn_desk_progress_laws.proofs.honest.first_requests_are_challenged.Goals as goal

-- By what the server core replies.
module _ (c : goal.After-first_requests_are_challenged) (plan : Plan) (old w v : World) (reported : List TurnEvent) (fresh : IsFresh plan old) (none : reported ≡ []) (request : Sent) (is : IsRequested plan old request w)
    (decision : Decision) (seed : List ℕ) (client : v.client ≡ w.client) where
  by_reply : (ret : Answer) → IsReply ret old.desk (first_request plan.client) plan.client.here plan.client.made decision seed v.desk → IsAtStage plan old (reported ++ event_in ret) (replied_first request ret) v
  by_reply (answer.Reply reply) replied = (
    untold reported [] none refl,
    record {
      request_is = is.request_is;
      client = record { core = is.client.core; there = client ∙ is.client.there; is = is.client.is };
      part = none_yet reply.items (is_message old.desk v.desk plan.client.here (first_request plan.client) reply.items plan.client.made seed decision replied.answer);
      challenge = c.first_requests_are_challenged.ensures old.desk v.desk plan.client.here (signer_of plan.client.config) plan.client.config.transport plan.client.config.families plan.client.config.options (first_number plan.client) plan.client.made
          (words_of seed) decision reply.items (c.new_clients_ask.ensures.short plan.client fresh.room) fresh.room.1 (first_fits plan.client) fresh.unknown replied.answer;
    },
  )
  by_reply answer.Nothing replied =
      absurd (replied.0 (is_served_first (signer_of plan.client.config) plan.client.config.transport plan.client.config.families plan.client.config.options (first_number plan.client)
      (c.proof_requests_are_read.ensures.read (signer_of plan.client.config) (FirstAllocate plan.client.config.transport plan.client.config.families plan.client.config.options) (first_number plan.client)
      (c.new_clients_ask.ensures.short plan.client fresh.room) fresh.room.1 (first_fits plan.client))))
  by_reply _ replied = absurd replied

pub returns : goal.returns
returns c = λ plan old w v reported ret request bytes decision seed fresh is same step.
    let at = subst (λ (d : State). IsDeskAnswered ret d bytes.items request.from plan.client.made decision seed v.desk) is.1.desk_is step.0 in
    let of = subst (λ (r : Sent). IsDeskAnswered ret old.desk r.bytes r.from plan.client.made decision seed v.desk) is.1.request_is
    (subst (λ (b : List ℕ). IsDeskAnswered ret old.desk b request.from plan.client.made decision seed v.desk) same at) in
    by_reply c plan old w v reported fresh is.0 request is.1 decision seed (ap (λ (x : World). x.client) step.1) ret of.reply
