-- The lines of a trace.
use Rattle.std.specs.Prelude.{ℕ, ◌≡◌, ◌⊎◌, List, true}
use Rattle.line_io.specs.Cut.{says_nothing}
use Rattle.line_io.specs.LineWords.{AreWords}
use Rattle.turn_desk_trace.specs.declared.line.Line.{Line}
use Rattle.turn_desk_trace.specs.declared.line.Line.TheVariants.{Setup, Look, Event}
use Rattle.turn_desk_trace.specs.Event.{IsEvent}
use Rattle.turn_desk_trace.specs.Look.{IsLook}
use Rattle.turn_desk_trace.specs.Setup.{IsSetup}

-- The words spell the line, given these earlier results.
abbrev pub IsLineOf : List (List ℕ) → List (List ℕ) → Line → Type 0
IsLineOf answers words (Setup setup) = IsSetup words setup
IsLineOf answers words (Look look) = IsLook words look
IsLineOf answers words (Event event) = IsEvent answers words event

-- The words of the text spell the line.
pub record IsLine (answers : List (List ℕ)) (text : List ℕ) (line : Line) : Type 0 where
  pub words : List (List ℕ)
  pub parted : AreWords text words
  pub spelled : IsLineOf answers words line

-- The line is blank or a comment, or it can be read, given some earlier results.
abbrev pub IsReadable : List ℕ → Type 0
IsReadable text = (says_nothing text ≡ true) ⊎ ((answers : List (List ℕ)) × (line : Line) × IsLine answers text line)
