use Rattle.std.proofs.Common.{◌≡◌, ◌++◌, List, refl, sym, subst}
use Rattle.turn_client_proto_api.specs.declared.event.TurnEvent.{TurnEvent}
use Rattle.turn_desk_event.specs.declared.answer.Answer.{Answer}
use Rattle.turn_desk_event.specs.declared.event.Event.{Event}
use Rattle.turn_desk_world_laws.specs.World.Model.{World}
use Rattle.turn_desk_world_laws.specs.World.Runs.{IsStep}
use Rattle.turn_desk_progress_laws.specs.Promises.{IsFresh, event_in}
use Rattle.turn_desk_progress_laws.specs.Scripts.{AskFirst, AskSecond, DrawFirst, DrawSecond, DrawsOn, Follows, GiveFirst, GiveSecond, Looks, Progress, Plan, Polls, Receives}
use Rattle.turn_desk_progress_laws.specs.Standing.{IsAtStage}
use Rattle.turn_desk_progress_laws.proofs.honest.events_lead_on.Goals as goal

module _ (c : goal.After-ended_worlds_rest) (plan : Plan) (old : World) (fresh : IsFresh plan old) (w v : World) (reported : List TurnEvent) (progress next : Progress) (event : Event) (ret : Answer) where
  -- With the position, the event and the next position as a constructor has them.
  abbrev At : Progress → Event → Progress → Type 0
  At from happening to = IsAtStage plan old reported from w → IsStep happening w ret v → IsAtStage plan old (reported ++ event_in ret) to v

  as_said : (from : Progress) (happening : Event) (to : Progress) → progress ≡ from → event ≡ happening → next ≡ to → At from happening to → At progress event next
  as_said from happening to one two three is = λ occurs step.
      subst (λ (n : Progress). IsAtStage plan old (reported ++ event_in ret) n v) (sym three)
      (is (subst (λ (p : Progress). IsAtStage plan old reported p w) one occurs) (subst (λ (e : Event). IsStep e w ret v) two step))

  one : Follows plan progress event ret next → At progress event next
  one (DrawFirst at is to) = as_said _ _ _ at is to (λ occurs step. c.first_requests_are_transmitted.ensures plan old w v reported ret fresh occurs step)
  one (AskFirst request bytes decision seed at same is to) =
      as_said _ _ _ at is to (λ occurs step. c.first_requests_are_challenged.ensures plan old w v reported ret request bytes decision seed fresh occurs same step)
  one (GiveFirst request reply head rest bytes at on is to) =
      as_said _ _ _ at is to (λ occurs step. c.first_replies_are_taken.ensures plan old w v reported ret request reply head rest bytes fresh occurs on step)
  one (DrawSecond at is to) = as_said _ _ _ at is to (λ occurs step. c.second_requests_are_transmitted.ensures plan old w v reported ret fresh occurs step)
  one (AskSecond request bytes address lifetime seed at same asks whole is to) =
      as_said _ _ _ at is to (λ occurs step. c.second_requests_are_granted.ensures plan old w v reported ret request bytes address lifetime seed fresh occurs same asks whole step)
  one (GiveSecond request address lifetime reply head rest bytes at on is to) =
      as_said _ _ _ at is to (λ occurs step. c.second_replies_are_taken.ensures plan old w v reported ret request address lifetime reply head rest bytes fresh occurs on step)
  one (Looks what now look is to) = as_said _ _ _ refl is to (λ occurs step. c.worlds_stand_still.ensures.looks plan old w v reported ret progress what now occurs look step)
  one (Polls now at before is to) = as_said _ _ _ refl is to (λ occurs step. c.worlds_stand_still.ensures.polls plan old w v reported ret progress now occurs at before step)
  one (Receives now is to) = as_said _ _ _ refl is to (λ occurs step. c.worlds_give_nothing.ensures plan old w v reported ret progress now fresh occurs step)
  one (DrawsOn now at is to) = as_said _ _ _ at is to (λ occurs step. c.ended_worlds_rest.ensures.rests plan old w v reported ret now occurs step)

pub returns : goal.returns
returns c = λ plan old w v reported progress next event ret fresh follows occurs step. one c plan old fresh w v reported progress next event ret follows occurs step
