-- A run, and a script, with one more event.
use Rattle.std.proofs.Common.{◌++◌, List, [], ◌∷◌, refl, subst}
use Rattle.turn_desk_world_laws.specs.World.Model.{World}
use Rattle.turn_desk_world_laws.specs.World.Runs.{IsRun, IsStep}
use Rattle.turn_desk_event.specs.declared.answer.Answer.{Answer}
use Rattle.turn_desk_event.specs.declared.event.Event.{Event}
use Rattle.turn_desk_progress_laws.specs.Scripts.{Follows, IsScript, Progress, Plan}

pub begin_run : (old : World) → IsRun old [] old
unfolding IsRun
begin_run old = refl

pub begin_script : (plan : Plan) (progress : Progress) → IsScript plan progress [] progress
unfolding IsScript
begin_script plan progress = refl

pub run_more : (old w v : World) (pairs : List (Event × Answer)) (pair : Event × Answer) → IsRun old pairs w → IsStep pair.0 w pair.1 v → IsRun old (pairs ++ pair ∷ []) v
unfolding IsRun
run_more old w v [] pair run step = (v, subst (λ (x : World). IsStep pair.0 x pair.1 v) run step, refl)
run_more old w v (first ∷ pairs) pair run step = (run.0, run.1, run_more run.0 w v pairs pair run.2 step)

pub script_more : (plan : Plan) (from progress next : Progress) (pairs : List (Event × Answer)) (pair : Event × Answer) → IsScript plan from pairs progress → Follows plan progress pair.0 pair.1 next → IsScript plan from (pairs ++ pair ∷ []) next
unfolding IsScript
script_more plan from progress next [] pair is follows = (next, subst (λ (p : Progress). Follows plan p pair.0 pair.1 next) is follows, refl)
script_more plan from progress next (first ∷ pairs) pair is follows = (is.0, is.1, script_more plan is.0 progress next pairs pair is.2 follows)
