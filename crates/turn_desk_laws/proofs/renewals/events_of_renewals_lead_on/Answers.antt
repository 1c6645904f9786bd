use Rattle.std.proofs.Common.{◌≡◌, ℕ, refl, sym, ◌∙◌, subst, []}
use Rattle.std.specs.declared.net.socket_addr.SocketAddr.{SocketAddr}
use Rattle.turn_client_proto_api.specs.Sent.{Sent}
use Rattle.turn_desk_event.specs.declared.answer.Answer.{Answer}
use Rattle.turn_desk_event.specs.declared.answer.Answer.TheVariants as answer
use Rattle.turn_desk_core.specs.declared.decision.Decision.TheVariants as by
use Rattle.turn_desk_event.specs.declared.event.Event.{Event}
use Rattle.turn_desk_event.specs.declared.event.Event.TheVariants.{Draw, ToDesk}
use Rattle.turn_desk_world_laws.specs.World.Model.{World}
use Rattle.turn_desk_world_laws.specs.World.Runs.{IsStep}
use Rattle.turn_desk_progress_laws.specs.Loops.{MayBegin}
use Rattle.turn_desk_progress_laws.specs.Scripts.{Plan}
use Rattle.turn_desk_laws.specs.RenewalLoops.{Challenged, Challenges, Draws, GivesChallenge, GivesSuccess, Grants, Holding, IsDrawAt, IsDrawBy, IsInTime, Looks, Polls, Receives, Refreshing, Renewal, RenewalPosition, Renewing, Renews, Turned, counted_draw, position_after_draw, turned_next}
use Rattle.turn_desk_laws.specs.RenewalStages.{IsAtRenewal, IsStageAt}
use Rattle.turn_desk_laws.proofs.RenewalWorlds.{stage_on}
use Rattle.turn_desk_laws.proofs.renewals.events_of_renewals_lead_on.Goals as goal

same_progress : (plan : Plan) (now : ℕ) (p : RenewalPosition) (ret : Answer) → (counted_draw plan now ret p).progress ≡ p.progress
same_progress plan now p (answer.Transmit message) = refl
same_progress plan now p _ = refl

module _ (c : goal.After-late_challenges_are_taken) (plan : Plan) (old : World) (may : MayBegin plan old) (w v : World) (address : SocketAddr) (secondly : Sent) (p next : RenewalPosition) (event : Event) (ret : Answer) (is : IsAtRenewal plan old address secondly p w) where
  abbrev After : RenewalPosition → Event → Type 0
  After to happening = IsAtRenewal plan old address secondly to v × IsDrawBy plan old secondly p happening ret

  -- With the event and the next position as a constructor has them.
  as_said : (happening : Event) (to : RenewalPosition) → event ≡ happening → next ≡ to → (IsStep happening w ret v → After to happening) → IsStep event w ret v → After next event
  as_said happening to one two so step =
      let s = so (subst (λ (e : Event). IsStep e w ret v) one step) in
      subst (λ (n : RenewalPosition). After n event) (sym two) (subst (λ (e : Event). After to e) (sym one) s)

  stage_at : (progress : Renewal) → p.progress ≡ progress → IsStageAt plan old address secondly progress p w
  stage_at progress at = subst (λ (x : Renewal). IsStageAt plan old address secondly x p w) at is

  -- At a position that differs only in what was done, and when last.
  on : (progress : Renewal) (last : ℕ) (x : Renewal) → IsStageAt plan old address secondly x p v → IsStageAt plan old address secondly x (record p { progress = progress; last = last }) v
  on progress last x s = stage_on plan old address secondly p progress last v x s

  module _ (now : ℕ) (in_time : IsInTime p now) (step : IsStep (Draw now) w ret v) where
    abbrev q : RenewalPosition
    q = counted_draw plan now ret p

    abbrev Drawn : Renewal → Type 0
    Drawn progress = IsStageAt plan old address secondly (position_after_draw plan now ret progress p).progress (position_after_draw plan now ret progress p) v × IsDrawAt plan old secondly progress p now ret

    -- A request stays outstanding.
    outstanding : (progress : Renewal) → p.progress ≡ progress → IsStageAt plan old address secondly progress q v → IsStageAt plan old address secondly q.progress q v
    outstanding progress at s = subst (λ (x : Renewal). IsStageAt plan old address secondly x q v) (sym (same_progress plan now p ret ∙ at)) s

    by_draw : (progress : Renewal) → p.progress ≡ progress → Drawn progress
    by_draw Holding at = c.draws_of_held_allocations.ensures plan old w v address secondly p now ret may (stage_at Holding at) in_time step
    by_draw (Refreshing request) at =
        let s = c.draws_of_outstanding_refreshes.ensures.refreshing plan old w v address secondly p request now ret (stage_at (Refreshing request) at) in_time.in_range step in
        (outstanding (Refreshing request) at s.0, s.1)
    by_draw (Renewing request more reply head) at =
        let s = c.draws_of_outstanding_refreshes.ensures.renewing plan old w v address secondly p request more reply head now ret (stage_at (Renewing request more reply head) at) in_time.in_range step in
        (outstanding (Renewing request more reply head) at s.0, s.1)
    by_draw (Challenged request reply head) at =
        let s = c.draws_of_outstanding_refreshes.ensures.challenged plan old w v address secondly p request reply head now ret (stage_at (Challenged request reply head) at) in_time.in_range step in
        (outstanding (Challenged request reply head) at s.0, s.1)
    by_draw (Turned request reply) at =
        let s = c.draws_of_outstanding_refreshes.ensures.turned plan old w v address secondly p request reply now ret may (stage_at (Turned request reply) at) in_time.in_range step in
        (turned ret s.0, s.1)
      where
        turned : (a : Answer) → IsStageAt plan old address secondly (turned_next request reply a) (counted_draw plan now a p) v → IsStageAt plan old address secondly (turned_next request reply a) (position_after_draw plan now a (Turned request reply) p) v
        turned a s = stage_on plan old address secondly (counted_draw plan now a p) (turned_next request reply a) (counted_draw plan now a p).last v (turned_next request reply a) s

    drawn_on : After (position_after_draw plan now ret p.progress p) (Draw now)
    drawn_on = by_draw p.progress refl

  one : Renews plan p event ret next → IsStep event w ret v → After next event
  one (Draws now in_time is_event to) = as_said _ _ is_event to (λ step. drawn_on now in_time step)
  one (Polls now in_time unended is_event to) = as_said _ _ is_event to (λ step. (on p.progress now p.progress (c.renewals_are_polled.ensures plan old w v address secondly p.progress p now ret is in_time unended step), tt))
  one (Looks what now look in_time is_event to) = as_said _ _ is_event to (λ step. (on p.progress now p.progress (c.renewals_stand_still.ensures.looks plan old w v address secondly p.progress p what now ret is look step), tt))
  one (Receives now in_time is_event to) = as_said _ _ is_event to (λ step. (on p.progress now p.progress (c.renewals_stand_still.ensures.receives plan old w v address secondly p.progress p now ret may is step), tt))
  one (Grants request now more bytes reply seed at same enough is_event replied success to) = as_said _ _ is_event to (λ step. (
    on (Renewing request more reply.items []) p.last (Renewing request more reply.items [])
        (c.late_refreshes_are_granted.ensures plan old w v address secondly p request now more bytes reply seed may (stage_at (Refreshing request) at) same enough
        (subst (λ (a : Answer). IsStep (ToDesk bytes request.from now (by.Refresh more) seed) w a v) replied step) success),
    tt,
  ))
  one (Challenges request now bytes reply reported decision seed at same few is_event replied shows to) = as_said _ _ is_event to (λ step. (
    on (Challenged request reply.items []) p.last (Challenged request reply.items [])
        (c.late_refreshes_are_challenged.ensures plan old w v address secondly p request now bytes reply reported decision seed may (stage_at (Refreshing request) at) same few
        (subst (λ (a : Answer). IsStep (ToDesk bytes request.from now decision seed) w a v) replied step) shows),
    tt,
  ))
  one (GivesSuccess request more reply head rest bytes now at left on in_time is_event to) = as_said _ _ is_event to (λ step. (
    c.late_successes_are_taken.ensures plan old w v address secondly p request more reply head rest bytes now ret (stage_at (Renewing request more reply head) at) left on in_time.in_range step,
    tt,
  ))
  one (GivesChallenge request reply head rest bytes now at left on in_time is_event to) = as_said _ _ is_event to (λ step. (
    c.late_challenges_are_taken.ensures plan old w v address secondly p request reply head rest bytes now ret may (stage_at (Challenged request reply head) at) left on in_time.in_range step,
    tt,
  ))

pub returns : goal.returns
returns c = λ plan old w v address secondly p next event ret may leads is step. one c plan old may w v address secondly p next event ret is leads step
