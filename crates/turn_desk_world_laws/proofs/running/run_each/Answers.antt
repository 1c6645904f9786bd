use Rattle.std.proofs.Common.{length, List, refl, ap, subst}
use Rattle.turn_desk_event.specs.declared.answer.Answer.{Answer}
use Rattle.turn_desk_event.specs.declared.event.Event.{Event}
use Rattle.turn_desk_world.specs.Runs.{IsRun, IsStep}
use Rattle.turn_desk_world.proofs.Joined.{run_next, stepped}
use Rattle.turn_desk_world_laws.proofs.running.run_each.Goals as goal

pub loop-event-init : goal.loop-event-init
unfolding IsRun
loop-event-init c = (ap (λ (l : List Answer). length l) c.in_ok-answers.ensures.items, refl)

pub loop-event-preserved : goal.loop-event-preserved
loop-event-preserved c =
    let step = stepped (λ (a : Answer). IsStep c.event-item.result c.loop-event.world a c.step.new.self) c.step.result c.in_ok-answer.answer c.in_ok-answer.was c.step.ensures.step in
    let at = subst (λ (e : Event). IsStep e c.loop-event.world c.in_ok-answer.answer c.step.new.self) c.event-item.is step in
    run_next c.args.events.now c.loop-event.event-index c.event-item.result c.loop-event.answers.items c.push.new.self.items c.args.world.now c.loop-event.world c.step.new.self c.in_ok-answer.answer
    c.loop-event-test.true c.in_ok-push.ensures.items c.loop-event.invariant.0 c.loop-event.invariant.1 at
