use Rattle.std.proofs.Common.{◌≡◌, ◌++◌, ◌<◌, ◌^◌, ℕ, List, [], ◌∷◌, ap, refl, sym, ◌∙◌, subst}
use Rattle.std.specs.declared.net.socket_addr.SocketAddr.{SocketAddr}
use Rattle.turn_desk_core.specs.StunTypesBase.Times.{time_after}
use Rattle.turn_client_proto_messages.specs.StunProtoClient.Client.{standing_key}
use Rattle.turn_client_proto_messages.specs.StunProtoClient.Digests.{IsRight}
use Rattle.turn_client_proto_api.specs.declared.event.TurnEvent.{TurnEvent}
use Rattle.turn_client_proto_api.specs.Sent.{Sent}
use Rattle.turn_client_proto_step_laws.specs.Sound.{IsWhole}
use Rattle.turn_client_proto_messages.specs.ReadTexts.{HasReadTexts}
use Rattle.turn_client_proto_messages.specs.ShortTexts.{HasShortTexts}
use Rattle.turn_client_proto_handshake_laws.specs.Choosing.{IsChoice, IsSignedAllocate, allocate_of, signed_request, signer_by, standing_by}
use Rattle.turn_client_proto_handshake_laws.specs.Stages.{AsksForOne}
use Rattle.turn_desk_event.specs.declared.answer.Answer.{Answer}
use Rattle.turn_desk_event.specs.declared.answer.Answer.TheVariants as answer
use Rattle.turn_desk_core.specs.declared.decision.Decision.TheVariants as by
use Rattle.turn_desk_core.specs.declared.grant.Grant.{Grant}
use Rattle.turn_desk_step_laws.proofs.Requesting.{is_served}
use Rattle.turn_desk_step_laws.specs.Handshakes.{IsOfServer}
use Rattle.turn_desk_world_laws.specs.World.Desks.{IsDeskAnswered, IsReply, words_of}
use Rattle.turn_desk_world_laws.specs.World.Model.{World}
use Rattle.turn_desk_progress_laws.specs.Loops.{MayBegin, Timing}
use Rattle.turn_desk_progress_laws.specs.LoopStages.{IsSignedSo, IsStageOf, plan_at}
use Rattle.turn_desk_progress_laws.specs.Promises.{allocation_granted, event_in}
use Rattle.turn_desk_progress_laws.specs.Scripts.{Plan, replied_second}
use Rattle.turn_desk_progress_laws.proofs.Coming.{none_yet}
use Rattle.turn_desk_progress_laws.proofs.Indexes.{untold}
use Rattle.turn_desk_progress_laws.proofs.Looping.{choice_so, settings_so}
use Rattle.turn_desk_progress_laws.proofs.Serving.{differ_still, is_user, keeps_key}
use Rattle.turn_desk_progress_laws.proofs.loops.requests_in_time_are_granted.Goals as goal

module _ (c : goal.After-messages_are_reported_alike) (plan : Plan) (old w v : World) (reported : List TurnEvent) (may : MayBegin plan old) (t : Timing) (none : reported ≡ []) (request : Sent) (is : IsSignedSo plan old t request w) (now : ℕ)
    (in_time : now < time_after t.challenged old.desk.auth.nonce_expiry) (address : SocketAddr) (lifetime : ℕ) (seed : List ℕ) (asks : AsksForOne plan.client address) (whole : IsWhole address) (four : lifetime < 2 ^ 32) (client : v.client ≡ w.client) where
  choice_is : IsChoice plan.client is.choice
  choice_is = choice_so plan is.choice t.many t.sent is.is.client.core is.is.client.is

  short : HasShortTexts (signer_by plan.client is.choice)
  short = c.signed_allocates_answer.ensures.short plan.client is.choice may.room choice_is

  reads : HasReadTexts (signer_by plan.client is.choice)
  reads = c.signed_allocates_answer.ensures.read plan.client is.choice may.text choice_is

  own : IsOfServer w.desk.auth plan.client.here (standing_by plan.client is.choice)
  own = is_user (plan_at plan t.challenged) old.desk w.desk is.choice is.is.under is.is.answered may.user

  signed : IsSignedAllocate plan.client is.choice
  signed = c.signed_allocates_answer.ensures.request plan.client is.choice may.room may.text choice_is

  abbrev bytes : List ℕ
  bytes = signed_request plan.client is.choice

  granted_grants : (grants : List Grant) → grants ≡ w.desk.grants ++ allocation_granted plan bytes address lifetime ∷ [] → grants ≡ old.desk.grants ++ allocation_granted plan request.bytes address lifetime ∷ []
  granted_grants grants all =
      all ∙ ap (λ (l : List Grant). l ++ allocation_granted plan bytes address lifetime ∷ []) is.is.under.challenge.granted
      ∙ ap (λ (r : Sent). old.desk.grants ++ allocation_granted plan r.bytes address lifetime ∷ []) (sym is.request_is)

  by_reply : (ret : Answer) → IsReply ret w.desk bytes plan.client.here now (by.Allocate (address ∷ []) lifetime) seed v.desk → IsStageOf plan old (reported ++ event_in ret) (replied_second request address lifetime ret) t v
  by_reply (answer.Reply reply) replied =
      let g = c.signed_allocates_are_granted.ensures w.desk v.desk plan.client.here (signer_by plan.client is.choice) plan.client.config.transport plan.client.config.families plan.client.config.options is.choice.number now
      (words_of seed) (standing_by plan.client is.choice) (address ∷ []) lifetime reply.items short reads may.room.1 choice_is.fits (c.signed_allocates_answer.ensures.occurs plan.client is.choice) own
      (differ_still (plan_at plan t.challenged) old.desk w.desk is.choice.reported is.is.under may.hashes) (is.is.under.challenge.occurs now in_time) refl
      (c.relayed_addresses_are_reported.ensures.relayed is.choice.number (address ∷ []) (whole, tt)) four replied.answer in
      let right = c.successes_are_right.ensures w.desk v.desk plan.client.here bytes reply.items plan.client.config.transport (address ∷ []) lifetime (standing_by plan.client is.choice) own g in (
        untold reported [] none refl,
        record {
          choice = is.choice;
          made = is.is.made;
          is = record {
            request_is = is.request_is;
            answered = is.is.answered;
            of = settings_so plan old t.challenged is.choice w.desk is.is.under is.is.answered;
            asks = asks;
            request_right = subst (λ (r : Sent). IsRight r.bytes (standing_key (standing_by plan.client is.choice))) (sym is.request_is)
                signed.valid;
            message = g.message;
            grant = record {
              number = g.number ∙ signed.number;
              success = g.success;
              right = right.0;
              relayed = c.messages_are_reported_alike.ensures.relayed reply.items g.each ∙ g.shows;
              lifetime_is = c.messages_are_reported_alike.ensures.lifetime reply.items ∙ g.decodes;
            };
            no_challenge = right.1;
            keeps = keeps_key w.desk.auth v.desk.auth plan.client.here (standing_by plan.client is.choice) own g.stored;
            granted = granted_grants v.desk.grants g.granted;
          };
          part = none_yet reply.items g.message;
          client = record { core = is.is.client.core; there = client ∙ is.is.client.there; is = is.is.client.is };
        },
      )
  by_reply answer.Nothing replied =
      absurd (replied.0 (is_served (signer_by plan.client is.choice) plan.client.config.transport plan.client.config.families plan.client.config.options is.choice.number
      (c.proof_requests_are_read.ensures.read (signer_by plan.client is.choice) (allocate_of plan.client) is.choice.number short may.room.1 choice_is.fits)))
  by_reply _ replied = absurd replied

pub returns : goal.returns
returns c = λ plan old w v reported ret t request bytes now address lifetime seed may is same in_time asks whole step.
    let at = subst (λ (b : List ℕ). IsDeskAnswered ret w.desk b request.from now (by.Allocate (address ∷ []) lifetime) seed v.desk) same step.0 in
    let of = subst (λ (r : Sent). IsDeskAnswered ret w.desk r.bytes r.from now (by.Allocate (address ∷ []) lifetime) seed v.desk) is.1.request_is at in
    by_reply c plan old w v reported may t is.0 request is.1 now in_time address lifetime seed asks whole of.four_bytes (ap (λ (x : World). x.client) step.1) ret of.reply
