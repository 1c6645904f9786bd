use Rattle.std.proofs.Common.{◌≡◌, ◌≤◌, ◌++◌, ℕ, List, refl, sym, subst}
use Rattle.turn_client_proto_api.specs.declared.event.TurnEvent.{TurnEvent}
use Rattle.turn_client_proto_handshake_laws.specs.Driving.{client_end}
use Rattle.turn_desk_event.specs.declared.answer.Answer.{Answer}
use Rattle.turn_desk_event.specs.declared.event.Event.{Event}
use Rattle.turn_desk_event.specs.declared.event.Event.TheVariants.{Draw}
use Rattle.turn_desk_world_laws.specs.World.Model.{World}
use Rattle.turn_desk_world_laws.specs.World.Runs.{IsStep}
use Rattle.turn_desk_progress_laws.specs.Loops.{AsksFirst, AsksSecond, DrawsAgain, DrawsFirst, DrawsOn, GivesFirst, GivesSecond, IsGivenBy, IsNext, IsTransmittedAt, Leads, Looks, MayBegin, Polls, Position, Receives, Timing, after_draw, counted}
use Rattle.turn_desk_progress_laws.specs.LoopStages.{IsAtPosition, IsStageOf}
use Rattle.turn_desk_progress_laws.specs.Promises.{event_in}
use Rattle.turn_desk_progress_laws.specs.Scripts.{Requested, Barred, Came, Challenged, Done, Granted, Progress, Plan, Signed, Silent, Start}
use Rattle.turn_desk_progress_laws.proofs.Looping.{arrived_sooner, itself, passes, sent_sooner}
use Rattle.turn_desk_progress_laws.proofs.loops.events_of_loops_lead_on.Goals as goal

module _ (c : goal.After-positions_stay_empty) (plan : Plan) (old : World) (may : MayBegin plan old) (w v : World) (reported : List TurnEvent) (position next : Position) (event : Event) (ret : Answer)
    (is : IsAtPosition plan old reported position w) where
  abbrev t : Timing
  t = position.timing

  abbrev After : Position → Event → Type 0
  After to happening = IsAtPosition plan old (reported ++ event_in ret) to v × IsGivenBy plan old position happening ret

  -- With the event and the next position as a constructor has them.
  as_said : (happening : Event) (to : Position) → event ≡ happening → next ≡ to → (IsStep happening w ret v → After to happening) → IsStep event w ret v → After next event
  as_said happening to one two so step =
      let s = so (subst (λ (e : Event). IsStep e w ret v) one step) in
      subst (λ (n : Position). After n event) (sym two) (subst (λ (e : Event). After to e) (sym one) s)

  -- The state at the position, by the progress that a constructor has.
  stage_at : (progress : Progress) → position.progress ≡ progress → IsStageOf plan old reported progress t w
  stage_at progress at = subst (λ (p : Progress). IsStageOf plan old reported p t w) at is.stage

  sooner : (now : ℕ) → IsNext position now → t.sent ≤ now
  sooner now soon = passes t.sent position.last now is.sent_before soon.later

  module _ (now : ℕ) (soon : IsNext position now) (step : IsStep (Draw now) w ret v) where
    redraws : (progress : Progress) → DrawsAgain progress → IsStageOf plan old reported progress t w → IsStageOf plan old (reported ++ event_in ret) (after_draw progress ret) (counted now ret t) v × IsTransmittedAt plan old progress t now ret
    redraws (Requested request) again stage = c.later_draws_ask_again.ensures.requested plan old w v reported ret t request now stage soon.in_range step
    redraws (Challenged request reply head) again stage = c.later_draws_ask_again.ensures.challenged plan old w v reported ret t request reply head now stage soon.in_range step
    redraws Came again stage = c.later_draws_sign.ensures plan old w v reported ret t now may stage soon.in_range step
    redraws (Signed request) again stage = c.later_draws_sign_again.ensures.signed plan old w v reported ret t request now stage (sooner now soon) soon.in_range step
    redraws (Granted request address lifetime reply head) again stage =
        c.later_draws_sign_again.ensures.granted plan old w v reported ret t request address lifetime reply head now stage (sooner now soon) soon.in_range step
    redraws Start again stage = absurd again
    redraws (Done request address lifetime reply) again stage = absurd again
    redraws Barred again stage = absurd again
    redraws Silent again stage = absurd again

    redrawn : DrawsAgain position.progress → After (record { progress = after_draw position.progress ret; last = now; timing = counted now ret t }) (Draw now)
    redrawn again =
        let s = redraws position.progress again is.stage in
        (record { sent_before = sent_sooner ret t.sent now (sooner now soon); stage = s.0 }, s.1)

  one : Leads plan old.desk.auth position event ret next → IsStep event w ret v → After next event
  one (DrawsFirst at soon is_event to) = as_said _ _ is_event to (λ step.
      let s = c.first_draws_ask.ensures plan old w v reported ret t may (stage_at Start at) soon.in_range step in
      (record { sent_before = itself plan.client.made; stage = s.0 }, subst (λ (p : Progress). IsTransmittedAt plan old p t plan.client.made ret) (sym at) s.1))
  one (DrawsOn now again soon is_event to) = as_said _ _ is_event to (λ step. redrawn now soon step again)
  one (AsksFirst request bytes now decision seed at same is_event to) = as_said _ _ is_event to (λ step. (
    record { sent_before = is.sent_before; stage = c.requests_in_time_are_challenged.ensures plan old w v reported ret t request bytes now decision seed may (stage_at (Requested request) at) same step },
    tt,
  ))
  one (GivesFirst request reply head rest bytes now at on soon is_event to) = as_said _ _ is_event to (λ step. (
    record {
      sent_before = arrived_sooner rest t now (sooner now soon);
      stage = c.challenges_in_time_are_taken.ensures plan old w v reported ret t request reply head rest bytes now may (stage_at (Challenged request reply head) at) on soon.in_range step;
    },
    tt,
  ))
  one (AsksSecond request bytes now address lifetime seed at same in_time asks whole is_event to) = as_said _ _ is_event to (λ step. (
    record {
      sent_before = is.sent_before;
      stage = c.requests_in_time_are_granted.ensures plan old w v reported ret t request bytes now address lifetime seed may (stage_at (Signed request) at) same in_time asks whole step;
    },
    tt,
  ))
  one (GivesSecond request address lifetime reply head rest bytes now at on soon is_event to) = as_said _ _ is_event to (λ step. (
    record {
      sent_before = arrived_sooner rest t now (sooner now soon);
      stage = c.successes_in_time_are_taken.ensures plan old w v reported ret t request address lifetime reply head rest bytes now (stage_at (Granted request address lifetime reply head) at) on soon.in_range step;
    },
    tt,
  ))
  one (Looks what now look soon is_event to) =
      as_said _ _ is_event to (λ step. (record { sent_before = sooner now soon; stage = c.positions_stay.ensures.looks plan old w v reported ret position.progress t what now is.stage look step }, tt))
  one (Receives now soon is_event to) =
      as_said _ _ is_event to (λ step. (record { sent_before = sooner now soon; stage = c.positions_stay_empty.ensures plan old w v reported ret position.progress t now may is.stage step }, tt))
  one (Polls now at soon is_event to) =
      as_said _ _ is_event to (λ step. (record { sent_before = sooner now soon; stage = c.positions_stay.ensures.polls plan old w v reported ret position.progress t now is.stage at step }, tt))

pub returns : goal.returns
returns c = λ plan old w v reported position next event ret may leads is step. one c plan old may w v reported position next event ret is leads step
