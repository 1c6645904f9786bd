-- Where the last event of a run begins.
use Rattle.std.proofs.Common.{◌++◌, List, [], ◌∷◌, refl, sym, subst}
use Rattle.turn_desk_event.specs.declared.answer.Answer.{Answer}
use Rattle.turn_desk_event.specs.declared.event.Event.{Event}
use Rattle.turn_client_proto_step_laws.specs.RunClient.{Client}
use Rattle.turn_desk_step_laws.specs.DeskRun.{DeskCall}
use Rattle.turn_desk_step_laws.specs.TurnRuns.Runs.{Step}
use Rattle.turn_desk_world_laws.specs.Reported.{IsReportedBy}
use Rattle.turn_desk_world.specs.Model.{World}
use Rattle.turn_desk_world.specs.Runs.{IsRun, IsStep}

-- The events before it lead there.
pub record IsLast (pairs : List (Event × Answer)) (pair : Event × Answer) (old new : World) : Type 0 where
  pub begins : World
  pub reached : IsRun old pairs begins
  pub step : IsStep pair.0 begins pair.1 new

pub last_of : (pairs : List (Event × Answer)) (pair : Event × Answer) (old new : World) (run : List (Step Client DeskCall)) → IsReportedBy old (pairs ++ pair ∷ []) run new → IsLast pairs pair old new
unfolding IsReportedBy IsRun
last_of [] pair old new run (next, steps, later, run_is, is, by, rest) = record {
  begins = old;
  reached = refl;
  step = subst (λ (w : World). IsStep pair.0 old pair.1 w) (sym rest.1) is;
}
last_of (first ∷ pairs) pair old new run (next, steps, later, run_is, is, by, rest) =
    let one = last_of pairs pair next new later rest in
    record { begins = one.begins; reached = (next, is, one.reached); step = one.step }
