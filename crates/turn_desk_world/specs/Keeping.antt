-- The effect of a line, if only those results are stored that a later line can name.
use Rattle.std.specs.Prelude.{◌≡◌, ℕ, Bool, true, List, [], ◌∷◌, ◌++◌, length, Some}
use Rattle.line_io.specs.Cut.{says_nothing}
use Rattle.turn_desk_world.specs.Model.{World}
use Rattle.turn_desk_event.specs.declared.answer.Answer.{Answer}
use Rattle.turn_desk_event.specs.declared.event.Event.{Event as Happening}
use Rattle.turn_desk_event.specs.Printed.{answer_text}
use Rattle.turn_desk_trace.specs.Answer.{named_by}
use Rattle.turn_desk_trace.specs.TraceLines.{IsLine}
use Rattle.turn_desk_trace.specs.declared.line.Line.TheVariants.{Setup, Look, Event}
use Rattle.turn_desk_trace.specs.declared.look.Look.{Look as Looking}
use Rattle.turn_desk_trace.specs.declared.setup.Setup.{Setup as SettingUp}
use Rattle.turn_desk_world.specs.Progress.{IsRunOfOne, IsSetUp, Progress, can_happen_in, can_set_up, client_of, world_of}
use Rattle.turn_desk_world.specs.Replay.{IsSeen}
use Rattle.turn_desk_world.specs.Wanted.{is_wanted, stored_if}

-- An event was executed, and the bytes of its result are stored if a later line can name them.
pub record IsHappenedStored (flags : List Bool) (p : Progress) (event : Happening) (answer : Answer) (q : Progress)
    : Type 0 where
  pub before : World
  pub stood : world_of p ≡ Some before
  pub possible : can_happen_in before event ≡ true
  pub after : World
  pub run : IsRunOfOne before event answer after
  pub continues : q.world ≡ Some after
  pub named : q.named ≡ p.named ++ stored_if (is_wanted flags (length p.named)) (named_by answer) ∷ []

-- An event was executed in this way, and the printed line is its result.
pub record IsReportedStored (flags : List Bool) (p : Progress) (event : Happening) (printed : List ℕ) (q : Progress)
    : Type 0 where
  pub answer : Answer
  pub happened : IsHappenedStored flags p event answer q
  pub reported : printed ≡ answer_text answer

-- A line was executed in the state `p`: it printed `printed`, and left the state `q`. Only results that a
-- later line can name are stored.
pub data IsLineDoneStored (flags : List Bool) (p : Progress) (line printed : List ℕ) (q : Progress) : Type 0 where
  Skipped : says_nothing line ≡ true → printed ≡ [] → q ≡ p → IsLineDoneStored flags p line printed q
  SetUp : (setup : SettingUp) → IsLine p.named line (Setup setup) → can_set_up p setup ≡ true
      → IsSetUp p setup q → printed ≡ []
      → IsLineDoneStored flags p line printed q
  Looked : (look : Looking) → IsLine p.named line (Look look) → IsSeen (client_of p) look printed → q ≡ p
      → IsLineDoneStored flags p line printed q
  Answered : (event : Happening) → IsLine p.named line (Event event) → IsReportedStored flags p event printed q
      → IsLineDoneStored flags p line printed q
