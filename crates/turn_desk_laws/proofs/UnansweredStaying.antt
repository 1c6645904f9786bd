-- Where the client has not changed, the stage of its first request stays the same.
use Rattle.std.proofs.Common.{◌≡◌, ℕ, ◌+◌, ◌≤◌, arith, List, [], ◌∷◌, ◌++◌, Some, refl, sym, ap, ◌∙◌, subst}
use Rattle.std.specs.Prelude.{length, map as map_list}
use Rattle.std.proofs.lemmas.List.{append-nil, length-append, map-append}
use Rattle.turn_desk_event.specs.StunProtoTransaction.Schedule.{slot_at}
use Rattle.turn_client_proto_api.specs.declared.event.TurnEvent.{TurnEvent}
use Rattle.turn_client_proto_handshake_laws.specs.Requested.{count_of}
use Rattle.turn_client_proto_handshake_laws.specs.Sent.{Sending, first_sent, sent_at}
use Rattle.turn_client_proto_api.specs.Sent.{Sent}
use Rattle.turn_client_proto_step_laws.specs.Recv.ClientState.{Protocol}
use Rattle.turn_desk_event.specs.declared.answer.Answer.{Answer}
use Rattle.turn_desk_world_laws.specs.World.Model.{World}
use Rattle.turn_desk_progress_laws.specs.Loops.{Timing}
use Rattle.turn_desk_progress_laws.specs.Promises.{HasClient, event_in}
use Rattle.turn_desk_progress_laws.specs.Scripts.{Plan}
use Rattle.turn_desk_progress_laws.proofs.Clients.{Rests}
use Rattle.turn_desk_progress_laws.proofs.Indexes.{reports_still, untold}
use Rattle.turn_desk_laws.specs.Unanswered.{AreNotEarly, HasSent, RequestState, Unmade, Outstanding, TimedOut}
use Rattle.turn_desk_laws.specs.UnansweredStages.{IsStageOf}

-- ---- the stage

pub moved : (plan : Plan) (head : List ℕ) (Is : Protocol → Type 0) (w v : World) → v.client ≡ w.client → HasClient plan head w Is → HasClient plan head v Is
moved plan head Is w v same h = record { core = h.core; there = same ∙ h.there; is = h.is }

pub same_client : (plan : Plan) (reported : List TurnEvent) (request : RequestState) (t : Timing) (head : List ℕ) (ret : Answer) (w v : World) → v.client ≡ w.client → event_in ret ≡ [] → IsStageOf plan reported request t head w
    → IsStageOf plan (reported ++ event_in ret) request t head v
same_client plan reported Unmade t head ret w v same quiet is = record {
  untold = untold reported (event_in ret) is.untold quiet;
  none_sent = is.none_sent;
  client = moved plan head _ w v same is.client;
}
same_client plan reported Outstanding t head ret w v same quiet is = record {
  untold = untold reported (event_in ret) is.untold quiet;
  client = moved plan head _ w v same is.client;
}
same_client plan reported TimedOut t head ret w v same quiet is = record {
  left = is.left;
  decodes = reports_still reported ret is.left quiet ∙ is.decodes;
  client = moved plan head _ w v same is.client;
}

pub rests_so : (plan : Plan) (reported : List TurnEvent) (request : RequestState) (t : Timing) (head : List ℕ) (ret : Answer) (w v : World) → Rests ret w v → IsStageOf plan reported request t head w → IsStageOf plan (reported ++ event_in ret) request t head v
rests_so plan reported request t head ret w v r is = same_client plan reported request t head ret w v (ap (λ (x : World). x.client) r.same) r.silent is

-- ---- what was transmitted

-- One more time, not before the next slot.
slots_more : (plan : Plan) (index : ℕ) (times : List ℕ) (now : ℕ) → AreNotEarly plan index times → slot_at plan.client.made plan.client.config.waits (index + length times) ≤ now → AreNotEarly plan index (times ++ now ∷ [])
unfolding AreNotEarly
slots_more plan index [] now are late =
    let same : index + 0 ≡ index = omega arith in
    (subst (λ (n : ℕ). slot_at plan.client.made plan.client.config.waits n ≤ now) same late, tt)
slots_more plan index (time ∷ times) now are late =
    let same : index + length (time ∷ times) ≡ (index + 1) + length times = omega arith in
    (are.0, slots_more plan (index + 1) times now are.1 (subst (λ (n : ℕ). slot_at plan.client.made plan.client.config.waits n ≤ now) same late))

-- The first request was transmitted once more.
pub sent_more : (plan : Plan) (t : Timing) (now : ℕ) (sendings : List Sending) (sent : Sent) → sent ≡ first_sent plan.client → t.many + 1 ≤ count_of plan.client → slot_at plan.client.made plan.client.config.waits t.many ≤ now → HasSent plan t sendings
    → HasSent plan (record t { many = t.many + 1; sent = now }) (sendings ++ record { now = now; sent = sent } ∷ [])
sent_more plan t now sendings sent same left late is = record {
  times = is.times ++ now ∷ [];
  sent = ap (λ (s : Sent). sendings ++ record { now = now; sent = s } ∷ []) same
      ∙ ap (λ (l : List Sending). l ++ record { now = now; sent = first_sent plan.client } ∷ []) is.sent
      ∙ sym (map-append (λ (time : ℕ). record { now = time; sent = first_sent plan.client }) is.times (now ∷ []));
  many = length-append is.times (now ∷ []) ∙ ap (λ (n : ℕ). n + 1) is.many;
  most = left;
  slots = slots_more plan 0 is.times now is.slots (let many = is.many in let same : t.many ≡ 0 + length is.times = omega (arith, many) in subst (λ (n : ℕ). slot_at plan.client.made plan.client.config.waits n ≤ now) same late);
}

-- Nothing was transmitted.
pub sent_same : (plan : Plan) (t : Timing) (sendings none : List Sending) → none ≡ [] → HasSent plan t sendings → HasSent plan t (sendings ++ none)
sent_same plan t sendings none empty is = subst (λ (l : List Sending). HasSent plan t l) (sym (ap (λ (l : List Sending). sendings ++ l) empty ∙ append-nil sendings)) is
