use Rattle.std.proofs.Common.{◌≡◌, ◌≢◌, ◌⊎◌, ◌≤◌, ◌<◌, ◌++◌, ℕ, List, [], ◌∷◌, Some, refl, sym, ap, ◌∙◌, subst, inl, inr}
use Rattle.std.proofs.lemmas.List.{append-nil}
use Rattle.turn_client_proto_api.specs.declared.answer.TurnPollRet.{TurnPollRet}
use Rattle.turn_client_proto_api.specs.declared.answer.TurnPollRet.TheVariants as poll
use Rattle.turn_client_proto_api.specs.declared.event.TurnEvent.{TurnEvent}
use Rattle.turn_client_proto_step_laws.specs.Recv.ClientState.{Protocol}
use Rattle.turn_client_proto_step_laws.specs.Timers.Polling.{IsPolled}
use Rattle.turn_client_proto_handshake_laws.specs.Driving.{client_end}
use Rattle.turn_client_proto_handshake_laws.specs.Stages.{answer_at_end, failures}
use Rattle.turn_desk_event.specs.declared.answer.Answer.{Answer}
use Rattle.turn_desk_event.specs.declared.answer.Answer.TheVariants as answer
use Rattle.turn_desk_event.specs.declared.event.ClientCall.TheVariants as call
use Rattle.turn_desk_event.specs.declared.event.Event.TheVariants.{Call}
use Rattle.turn_desk_world_laws.specs.World.Model.{World}
use Rattle.turn_desk_world_laws.specs.World.Runs.{IsStep}
use Rattle.turn_desk_progress_laws.specs.Loops.{Timing}
use Rattle.turn_desk_progress_laws.specs.Promises.{control_at, event_in}
use Rattle.turn_desk_progress_laws.specs.Scripts.{Plan}
use Rattle.turn_desk_progress_laws.proofs.Clients.{poll_rests}
use Rattle.turn_desk_progress_laws.proofs.Indexes.{nothing_left, untold}
use Rattle.turn_desk_progress_laws.proofs.Waiting.{polls}
use Rattle.turn_desk_laws.specs.Unanswered.{HasTimedOut, IsBeforeEnd, IsPolledAt, IsWait, RequestState, Unmade, Outstanding, TimedOut, end_in}
use Rattle.turn_desk_laws.specs.UnansweredStages.{IsAskingSo, IsNewSo, IsStageOf}
use Rattle.turn_desk_laws.proofs.UnansweredPolls.{IsSaid, said, said_as}
use Rattle.turn_desk_laws.proofs.UnansweredStaying.{rests_so}
use Rattle.turn_desk_laws.proofs.unanswered.unanswered_clients_time_out.Goals as goal

module _ (c : goal.After-ended_clients_rest) (plan : Plan) (w v : World) (reported : List TurnEvent) (t : Timing) (head : List ℕ) (now : ℕ) (ret : Answer) (early : now ≤ client_end) (step : IsStep (Call call.Poll now) w ret v) where
  -- ---- what it gives

  new_gives : (is : IsNewSo plan reported t head w) → ret ≡ answer.Wait now
  new_gives is =
      let o = polls (control_at plan.client.transport head) w v is.client.core now ret is.client.there early step in
      let s = said_as is.client.core o.core now ret o.polled in
      s.ret_is ∙ ap said (c.new_clients_ask.ensures.polled plan.client is.client.core o.core now s.returned is.client.is s.polled).0

  asking_gives : (is : IsAskingSo plan reported t head w) → (now < end_in plan → IsWait plan t now ret) × (end_in plan ≤ now → ret ≡ answer.Closed)
  asking_gives is =
      let o = polls (control_at plan.client.transport head) w v is.client.core now ret is.client.there early step in
      let s = said_as is.client.core o.core now ret o.polled in (
        λ before. (
            let a = c.asking_clients_wait.ensures.polled plan.client t.many t.sent is.client.core o.core now s.returned is.client.is before s.polled in
            record {
              time = a.time;
              wait_is = s.ret_is ∙ ap said a.answer_is;
              by_end = a.by_end;
              by_slot = a.by_slot;
              later = λ quiet. a.later early quiet tt;
            }),
        λ over. elim (c.asking_clients_wait.ensures.ends plan.client t.many t.sent is.client.core o.core now s.returned is.client.is over s.polled) [
          | inl closed ↦ s.ret_is ∙ ap said closed.0
          | inr failed ↦ absurd (s.in_memory failed.0)
        ],
      )

  by_left : (left : List TurnEvent) → reported ++ left ≡ failures plan.client → (r : TurnPollRet) → r ≡ answer_at_end left now → ret ≡ said r → reported ≢ failures plan.client → ret ≡ answer.Wait now
  by_left [] all r answered is some = absurd (some (sym (append-nil reported) ∙ all))
  by_left (event ∷ left) all r answered is some = is ∙ ap said answered

  ended_gives : (is : HasTimedOut plan reported head w) → (reported ≡ failures plan.client → ret ≡ answer.Closed) × (reported ≢ failures plan.client → ret ≡ answer.Wait now)
  ended_gives is =
      let o = polls (control_at plan.client.transport head) w v is.client.core now ret is.client.there early step in
      let s = said_as is.client.core o.core now ret o.polled in
      let a = (c.ended_clients_rest.ensures.polled plan.client is.left is.client.core o.core now s.returned is.client.is s.polled).0 in (
        λ all. s.ret_is ∙ ap said (a ∙ ap (λ (l : List TurnEvent). answer_at_end l now) (nothing_left reported is.left (is.decodes ∙ sym all))),
        λ some. by_left is.left is.decodes s.returned a s.ret_is some,
      )

  gives : (request : RequestState) → IsStageOf plan reported request t head w → IsPolledAt plan reported request t now ret
  gives Unmade is = new_gives is
  gives Outstanding is = asking_gives is
  gives TimedOut is = ended_gives is

  -- ---- the state after it

  waits : (request : RequestState) → IsBeforeEnd plan request now → IsStageOf plan reported request t head w → IsStageOf plan (reported ++ event_in ret) request t head v
  waits Unmade before is =
      rests_so plan reported Unmade t head ret w v
      (poll_rests (control_at plan.client.transport head) w v is.client.core now ret is.client.there (λ r q polled. (c.new_clients_ask.ensures.polled plan.client is.client.core q now r is.client.is polled).1) step) is
  waits Outstanding before is =
      rests_so plan reported Outstanding t head ret w v
      (poll_rests (control_at plan.client.transport head) w v is.client.core now ret is.client.there (λ r q polled. (c.asking_clients_wait.ensures.polled plan.client t.many t.sent is.client.core q now r is.client.is before polled).unchanged) step) is
  waits TimedOut before is =
      rests_so plan reported TimedOut t head ret w v
      (poll_rests (control_at plan.client.transport head) w v is.client.core now ret is.client.there (λ r q polled. (c.ended_clients_rest.ensures.polled plan.client is.left is.client.core q now r is.client.is polled).1) step) is

  ends : end_in plan ≤ now → IsAskingSo plan reported t head w → HasTimedOut plan (reported ++ event_in ret) head v
  ends over is =
      let o = polls (control_at plan.client.transport head) w v is.client.core now ret is.client.there early step in
      let s = said_as is.client.core o.core now ret o.polled in
      elim (c.asking_clients_wait.ensures.ends plan.client t.many t.sent is.client.core o.core now s.returned is.client.is over s.polled) [
        | inl closed ↦ record {
          left = failures plan.client;
          decodes = ap (λ (l : List TurnEvent). l ++ failures plan.client) (untold reported (event_in ret) is.untold s.silent);
          client = record { core = o.core; there = o.there; is = closed.1 };
        }
        | inr failed ↦ absurd (s.in_memory failed.0)
      ]

pub returns-clause-gives : goal.returns-clause-gives
returns-clause-gives c = λ plan w v reported request t head now ret is early step. gives c plan w v reported t head now ret early step request is

pub returns-clause-waits : goal.returns-clause-waits
returns-clause-waits c = λ plan w v reported request t head now ret is before early step. waits c plan w v reported t head now ret early step request before is

pub returns-clause-ends : goal.returns-clause-ends
returns-clause-ends c = λ plan w v reported t head now ret is over early step. ends c plan w v reported t head now ret early step over is
