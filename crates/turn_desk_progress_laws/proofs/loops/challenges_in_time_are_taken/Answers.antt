use Rattle.std.proofs.Common.{◌≡◌, ◌++◌, ℕ, List, [], ◌∷◌, ap, refl, sym, ◌∙◌, subst, inl, inr}
use Rattle.turn_client_proto_api.specs.declared.event.TurnEvent.{TurnEvent}
use Rattle.turn_client_proto_api.specs.Sent.{Sent}
use Rattle.turn_desk_event.specs.declared.event.Event.TheVariants.{ToClient}
use Rattle.turn_desk_world_laws.specs.World.Runs.{IsStep}
use Rattle.turn_client_proto_handshake_laws.specs.Choosing.{IsChallenge}
use Rattle.turn_client_proto_handshake_laws.specs.Sent.{first_request}
use Rattle.turn_client_proto_handshake_laws.specs.Stages.{failures}
use Rattle.turn_desk_event.specs.declared.answer.Answer.{Answer}
use Rattle.turn_desk_core.specs.State.{State}
use Rattle.turn_desk_step_laws.specs.Challenged.{IsFirstChallenge}
use Rattle.turn_desk_world_laws.specs.World.Model.{World}
use Rattle.turn_desk_progress_laws.specs.Loops.{MayBegin, Timing, arrived}
use Rattle.turn_desk_progress_laws.specs.LoopStages.{IsChallengedSo, IsStageOf, plan_at}
use Rattle.turn_desk_progress_laws.specs.Promises.{control_at, event_in}
use Rattle.turn_desk_progress_laws.specs.Scripts.{Came, Plan, brought_first}
use Rattle.turn_desk_progress_laws.specs.Standing.{IsUnder}
use Rattle.turn_desk_progress_laws.proofs.Coming.{IsBroughtOn, IsProcessedOn, brings}
use Rattle.turn_desk_progress_laws.proofs.Indexes.{untold}
use Rattle.turn_desk_progress_laws.proofs.loops.challenges_in_time_are_taken.Goals as goal

module _ (c : goal.After-messages_reach_clients) (plan : Plan) (old w v : World) (reported : List TurnEvent) (may : MayBegin plan old) (t : Timing) (none : reported ≡ []) (request : Sent) (reply head : List ℕ) (is : IsChallengedSo plan old t request reply head w)
    (now : ℕ) (ret : Answer) where
  module _ (h : IsProcessedOn (control_at plan.client.transport []) is.client.core reply now ret w v) where
    is_challenge : IsChallenge plan.client is.challenge.reported reply
    is_challenge = record {
      visible = is.challenge.visible;
      number = is.challenge.number ∙ c.new_clients_ask.ensures.number plan.client may.room;
    }

    under : IsUnder (plan_at plan t.challenged) old.desk is.challenge.reported v.desk
    under = subst (λ (d : State). IsUnder (plan_at plan t.challenged) old.desk is.challenge.reported d) (sym h.desk) (record { reply = reply; challenge = is.challenge; reported_is = refl })

    so : IsStageOf plan old (reported ++ event_in ret) Came (arrived now [] t) v
    so = elim (c.challenges_are_answered.ensures.either plan.client t.many t.sent is.client.core h.core is.challenge.reported reply now h.handled is.client.is is_challenge h.processed) [
      | inl by ↦ (
          let a = c.challenges_are_answered.ensures.answered plan.client t.many t.sent is.client.core h.core is.challenge.reported reply now h.handled by.0 may.room is.client.is is_challenge by.1 h.processed in
          inl (
            untold reported (event_in ret) none h.silent_is,
            record {
              none_sent = refl;
              choice = record { reported = is.challenge.reported; algorithm = by.0; number = a.1; made = now };
              is = record { under = under; made = refl; answered = by.1; client = record { core = h.core; there = h.there; is = a.2 } };
            },
          ))
      | inr barring ↦ (
          let a = c.challenges_are_answered.ensures.barred plan.client t.many t.sent is.client.core h.core is.challenge.reported reply now h.handled is.client.is is_challenge barring h.processed in
          inr (record {
            challenge = is.challenge.reported;
            under = under;
            barring = barring;
            left = failures plan.client;
            decodes = ap (λ (l : List TurnEvent). l ++ failures plan.client) (untold reported (event_in ret) none h.silent_is);
            client = record { core = h.core; there = h.there; is = a.1 };
          }))
    ]

  by_rest : (next rest : List ℕ) → IsBroughtOn plan.client.transport is.client.core reply next rest now ret w v → IsStageOf plan old (reported ++ event_in ret) (brought_first request reply next rest) (arrived now rest t) v
  by_rest next [] h = so h
  by_rest next (byte ∷ rest) h = (
    untold reported (event_in ret) none h.0.silent_is,
    record {
      request_is = is.request_is;
      client = record { core = is.client.core; there = h.0.there; is = is.client.is };
      part = h.1;
      challenge = subst (λ (d : State). IsFirstChallenge old.desk plan.client.here (first_request plan.client) t.challenged reply d) (sym h.0.desk) is.challenge;
    },
  )

pub returns : goal.returns
returns c = λ plan old w v reported ret t request reply head rest bytes now may is on early step.
    let own = subst (λ (r : Sent). IsStep (ToClient bytes r.to r.from now) w ret v) is.1.request_is step in
    let unserved = c.stages_are_unserved.ensures.asking plan.client t.many t.sent is.1.client.core is.1.client.is in
    by_rest c plan old w v reported may t is.0 request reply head is.1 now ret (head ++ bytes.items) rest
    (brings (record { datagram = c.messages_reach_clients.ensures.datagram; chunk = c.messages_reach_clients.ensures.chunk; whole = c.messages_reach_clients.ensures.whole }) plan.client w v
    is.1.client.core reply head rest bytes now ret is.1.client.there unserved is.1.part.is_message on early own)
