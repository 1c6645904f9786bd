-- Texts that are bad lines.
use Rattle.std.proofs.Common.{ℕ, ◌≡◌, List, false}
use Rattle.line_io.specs.Cut.{says_nothing}
use Rattle.turn_desk_trace.specs.TraceLines.{IsLine}
use Rattle.turn_desk_trace.specs.declared.line.Line.{Line}
use Rattle.turn_desk_world.specs.Progress.{Progress}
use Rattle.turn_desk_world.specs.Replay.{IsBadLine}

-- A text that is not skipped and spells no line is a bad line.
pub unspelled : (p : Progress) (text : List ℕ) → says_nothing text ≡ false → ((line : Line) → ¬ IsLine p.named text line) → IsBadLine p text
unspelled p text says never = record { says = says; none = λ line spelled. absurd (never line spelled) }
