-- Runs and scripts with one more event, and the server core after a run.
use Rattle.std.proofs.Common.{ℕ, List, [], ◌∷◌, ◌++◌, refl, sym, subst}
use Rattle.turn_client_proto_handshake_laws.specs.Sent.{Beginning}
use Rattle.turn_desk_world_laws.specs.World.Model.{World}
use Rattle.turn_desk_world_laws.specs.World.Runs.{IsRun, IsStep}
use Rattle.turn_desk_core.specs.State.{State}
use Rattle.turn_desk_event.specs.declared.answer.Answer.{Answer}
use Rattle.turn_desk_event.specs.declared.event.Event.{Event}
use Rattle.turn_desk_event.specs.declared.event.Event.TheVariants.{Call, Draw, ToClient, ToDesk}
use Rattle.turn_desk_progress_laws.specs.Scripts.{Follows, IsScript, Progress, Plan}
use Rattle.turn_desk_progress_laws.proofs.Clients.{same_desk}
use Rattle.turn_desk_progress_laws.proofs.Desks.{IsDeskOf, desk_stays}

pub run_more : (pairs : List (Event × Answer)) (pair : Event × Answer) (w v u : World) → IsRun w pairs v → IsStep pair.0 v pair.1 u → IsRun w (pairs ++ pair ∷ []) u
unfolding IsRun
run_more [] pair w v u run step = (u, subst (λ (x : World). IsStep pair.0 x pair.1 u) run step, refl)
run_more (first ∷ pairs) pair w v u run step = (run.0, run.1, run_more pairs pair run.0 v u run.2 step)

pub script_more : (plan : Plan) (pairs : List (Event × Answer)) (pair : Event × Answer) (progress between next : Progress) → IsScript plan progress pairs between → Follows plan between pair.0 pair.1 next → IsScript plan progress (pairs ++ pair ∷ []) next
unfolding IsScript
script_more plan [] pair progress between next is follows = (next, subst (λ (x : Progress). Follows plan x pair.0 pair.1 next) is follows, refl)
script_more plan (first ∷ pairs) pair progress between next is follows = (is.0, is.1, script_more plan pairs pair is.0 between next is.2 follows)

-- ---- the desk

pub desk_by : (b : Beginning) (realm : List ℕ) (event : Event) (ret : Answer) (w v : World) → IsDeskOf b realm w.desk → IsStep event w ret v → IsDeskOf b realm v.desk
desk_by b realm (Call what at) ret w v is step = subst (λ (d : State). IsDeskOf b realm d) (sym (same_desk w v step.1)) is
desk_by b realm (Draw at) ret w v is step = subst (λ (d : State). IsDeskOf b realm d) (sym (same_desk w v step.1)) is
desk_by b realm (ToClient bytes from to at) ret w v is step = subst (λ (d : State). IsDeskOf b realm d) (sym (same_desk w v step.1)) is
desk_by b realm (ToDesk bytes from at decision seed) ret w v is step = desk_stays b realm w.desk v.desk is ret bytes.items from at decision seed step.0

pub desk_on : (b : Beginning) (realm : List ℕ) (pairs : List (Event × Answer)) (w v : World) → IsDeskOf b realm w.desk → IsRun w pairs v → IsDeskOf b realm v.desk
unfolding IsRun
desk_on b realm [] w v is run = subst (λ (x : World). IsDeskOf b realm x.desk) (sym run) is
desk_on b realm (pair ∷ pairs) w v is run = desk_on b realm pairs run.0 v (desk_by b realm pair.0 pair.1 w run.0 is run.1) run.2
