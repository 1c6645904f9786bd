-- The words of a line.
use Rattle.std.proofs.Common.{ℕ, List, subst}
use Rattle.std.specs.Prelude.{Result, Ok, Err, IfOk}
use Rattle.stun_inspect.specs.declared.line.Line.{Line}
use Rattle.stun_inspect.specs.InspectLines.{IsLine, IsLineOf}
use Rattle.line_io.specs.LineWords.{AreWords}
use Rattle.line_io.proofs.WordLemmas.{same_words}

-- If the words spell a line, so does their text.
pub line_ok : {E : Type 0} (text : List ℕ) (words : List (List ℕ)) (r : Result Line E)
    → IfOk r (IsLineOf words) → AreWords text words → IfOk r (IsLine text)
line_ok text words (Ok line) spelled parted = record { words = words; parted = parted; spelled = spelled }
line_ok text words (Err e) spelled parted = tt

-- If the words don't spell a line, neither does their text.
pub line_bad : (text : List ℕ) (words : List (List ℕ)) (line : Line)
    → AreWords text words → ¬ (IsLineOf words line) → ¬ (IsLine text line)
line_bad text words line parted other is_line =
    let P : List (List ℕ) → Type 0 = λ w. IsLineOf w line in
    other (subst P (same_words text is_line.words words is_line.parted parted) is_line.spelled)
