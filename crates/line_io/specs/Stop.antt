-- Why a program stops early, and what it prints then.
use Rattle.std.specs.Prelude.{ℕ, List, [], ◌++◌, codes}
use Rattle.std.specs.Fmt.{decimal}
use Rattle.line_io.specs.declared.refusal.LineError.{LineError}
use Rattle.line_io.specs.declared.refusal.LineError.TheVariants as Errors
use Rattle.line_io.specs.declared.status.Status.{Status}
use Rattle.line_io.specs.declared.status.Status.TheVariants as Ends
use Rattle.line_io.specs.declared.stop.Stop.{Stop}
use Rattle.line_io.specs.declared.stop.Stop.TheVariants.{BadLine, NoMemory, Unread, Unwritten}

-- Why a program stops when the line with this number fails.
abbrev pub stop_of : ℕ → LineError → Stop
stop_of number Errors.Bad = BadLine number
stop_of number Errors.NoMemory = NoMemory

-- The status of a program that stopped.
abbrev pub status_of : Stop → Status
status_of (BadLine number) = Ends.BadTrace
status_of NoMemory = Ends.NoMemory
status_of Unread = Ends.Fault
status_of Unwritten = Ends.Fault

-- The line that is printed for a bad line with this number.
abbrev pub bad_text : ℕ → List ℕ
bad_text number = codes "bad trace: line " ++ decimal number ++ codes "\n"

-- The last line that is printed by a program that stopped.
abbrev pub stop_text : Stop → List ℕ
stop_text (BadLine number) = bad_text number
stop_text NoMemory = codes "no memory\n"
stop_text Unread = codes "read fault\n"
stop_text Unwritten = []
