-- What a replay prints, to a writer whose contents are known.
use Rattle.std.specs.Prelude.{◌≡◌, ◌≢◌, ℕ, ◌+◌, Bool, true, false, List, [], ◌∷◌, ◌++◌, codes, Option, None, Some, Result, Ok, Err}
use Rattle.std.specs.Io.KnownBytes.{Appends}
use Rattle.line_io.specs.Cut.{lines_of, says_nothing}
use Rattle.line_io.specs.Stop.{bad_text, status_of, stop_text}
use Rattle.line_io.specs.declared.status.Status.{Status}
use Rattle.line_io.specs.declared.status.Status.TheVariants.{Done, BadTrace, NoMemory, Fault}
use Rattle.line_io.specs.declared.stop.Stop.{Stop}
use Rattle.line_io.specs.declared.stop.Stop.TheVariants as stop
use Rattle.turn_client_proto.specs.Clients.{noted_of, stored_of}
use Rattle.turn_client_proto.specs.Recv.ClientState.{ClientState}
use Rattle.turn_client_proto.specs.Api.Causes.{cause_taken}
use Rattle.turn_client_proto.specs.Recv.declared.notes.Notes.{Notes}
use Rattle.turn_client_proto.specs.declared.client.TurnClient.{TurnClient}
use Rattle.turn_desk_event.specs.declared.answer.Answer.{Answer}
use Rattle.turn_desk_event.specs.declared.event.Event.{Event as Happening}
use Rattle.turn_desk_event.specs.Printed.{alternate_line, answer_text, cause_line, mapped_line}
use Rattle.turn_desk_trace.specs.TraceLines.{IsLine}
use Rattle.turn_desk_trace.specs.declared.line.Line.{Line}
use Rattle.turn_desk_trace.specs.declared.line.Line.TheVariants.{Setup, Look, Event}
use Rattle.turn_desk_trace.specs.declared.look.Look.{Look as Looking}
use Rattle.turn_desk_trace.specs.declared.look.Look.TheVariants.{Cause, Mapped, Alternate}
use Rattle.turn_desk_trace.specs.declared.setup.Setup.{Setup as SettingUp}
use Rattle.turn_desk_world.specs.Progress.{IsHappened, IsSetUp, Progress, can_happen, can_look, can_set_up, client_of}

-- The state before the first line.
abbrev pub start : Progress
start = record { desk = None; rto = None; client = None; world = None; named = [] }

-- An event was executed, and the printed line is its result.
pub record IsReported (p : Progress) (event : Happening) (printed : List ℕ) (q : Progress) : Type 0 where
  pub answer : Answer
  pub happened : IsHappened p event answer q
  pub reported : printed ≡ answer_text answer

-- The line for what is looked at, from what a client has noted.
abbrev pub seen_text : Looking → Notes → List ℕ
seen_text Cause notes = cause_line (cause_taken notes.causes)
seen_text Mapped notes = mapped_line notes.mapped
seen_text Alternate notes = alternate_line notes.alternate notes.domain

-- The printed line is what a client in this state has noted.
pub record IsSeen (state : Option ClientState) (look : Looking) (printed : List ℕ) : Type 0 where
  pub client : TurnClient
  pub there : state ≡ Some (stored_of client)
  pub seen : printed ≡ seen_text look (noted_of client)

-- A line was executed in the state `p`: it printed `printed`, and left the state `q`.
pub data IsLineDone (p : Progress) (line printed : List ℕ) (q : Progress) : Type 0 where
  Skipped : says_nothing line ≡ true → printed ≡ [] → q ≡ p → IsLineDone p line printed q
  SetUp : (setup : SettingUp) → IsLine p.named line (Setup setup) → can_set_up p setup ≡ true
      → IsSetUp p setup q → printed ≡ []
      → IsLineDone p line printed q
  Looked : (look : Looking) → IsLine p.named line (Look look) → IsSeen (client_of p) look printed → q ≡ p
      → IsLineDone p line printed q
  Answered : (event : Happening) → IsLine p.named line (Event event) → IsReported p event printed q
      → IsLineDone p line printed q

-- Whether the line is allowed in the state `p`.
abbrev pub can_stand : Progress → Line → Bool
can_stand p (Setup setup) = can_set_up p setup
can_stand p (Look look) = can_look p
can_stand p (Event event) = can_happen p event

-- The line is bad: it is not blank and not a comment, and it can't be read as a line that is allowed here.
pub record IsBadLine (p : Progress) (line : List ℕ) : Type 0 where
  pub says : says_nothing line ≡ false
  pub none : (read : Line) → IsLine p.named line read → can_stand p read ≡ false

-- What the lines print, from the line with this number on, and the status with which they end. Each line is
-- executed in the state that the one before it left, up to the first bad line, or until an allocation fails.
pub data IsReplay : Progress → ℕ → List (List ℕ) → List ℕ → Status → Type 0 where
  Ended : (p : Progress) (number : ℕ) → IsReplay p number [] [] Done
  More : (p : Progress) (number : ℕ) (line here : List ℕ) (q : Progress) (rest : List (List ℕ))
      (following : List ℕ) (status : Status)
      → IsLineDone p line here q → IsReplay q (number + 1) rest following status
      → IsReplay p number (line ∷ rest) (here ++ following) status
  Bad : (p : Progress) (number : ℕ) (line : List ℕ) (rest : List (List ℕ)) → IsBadLine p line
      → IsReplay p number (line ∷ rest) (bad_text number) BadTrace
  Lacking : (p : Progress) (number : ℕ) (lines : List (List ℕ)) → IsReplay p number lines (codes "no memory\n") NoMemory

-- What a replay of a trace printed that ended with this status. After a fault nothing is claimed.
abbrev pub Prints : List ℕ → Status → Option (List ℕ) → Option (List ℕ) → Type 0
Prints trace status old new =
    status ≢ Fault → (printed : List ℕ) × Appends old new printed × IsReplay start 1 (lines_of trace) printed status

-- What was printed of a trace up to its end, or up to where it stopped. The line of the status is not printed
-- yet.
abbrev pub IsReplayed : List ℕ → Result (Unit {0}) Stop → Option (List ℕ) → Option (List ℕ) → Type 0
IsReplayed trace (Ok done) old new =
    (printed : List ℕ) × Appends old new printed × IsReplay start 1 (lines_of trace) printed Done
IsReplayed trace (Err by) old new =
    status_of by ≢ Fault → (printed : List ℕ) × Appends old new printed
    × IsReplay start 1 (lines_of trace) (printed ++ stop_text by) (status_of by)

-- Why a line was not executed: it is bad, or an allocation failed.
abbrev pub IsStopped : Progress → ℕ → List ℕ → Stop → Type 0
IsStopped p number line (stop.BadLine at) = (at ≡ number) × IsBadLine p line
IsStopped p number line stop.NoMemory = Unit {0}
IsStopped p number line stop.Unread = Unit {0}
IsStopped p number line stop.Unwritten = Unit {0}

-- The line that is printed, or nothing if there is none.
abbrev pub line_text : Option (List ℕ) → List ℕ
line_text None = []
line_text (Some text) = text
