-- What is printed, to a writer whose contents are known.
use Rattle.std.specs.Prelude.{ℕ, List, [], ◌++◌, codes, Option, ⊤}
use Rattle.std.specs.Fmt.{decimal}
use Rattle.std.specs.Io.KnownBytes.{Appends}
use Rattle.line_io.specs.Stop.{stop_text}
use Rattle.line_io.specs.declared.stop.Stop.{Stop}
use Rattle.line_io.specs.declared.stop.Stop.TheVariants as Stops
use Rattle.line_io.specs.declared.stop.Stop.TheVariants.{BadLine, Unread, Unwritten}
use Rattle.stun_inspect.specs.declared.arguments.Form.{Form}
use Rattle.stun_inspect.specs.declared.arguments.Form.TheVariants.{Text, Json}
use Rattle.line_io.specs.declared.status.Status.{Status}
use Rattle.line_io.specs.declared.status.Status.TheVariants.{Done, BadTrace, NoMemory, Fault}

-- Some text was printed.
abbrev pub PrintsText : Option (List ℕ) → Option (List ℕ) → Type 0
PrintsText old new = (text : List ℕ) × Appends old new text

-- Some text was printed, and then `last`.
abbrev pub PrintsTextAnd : Option (List ℕ) → Option (List ℕ) → List ℕ → Type 0
PrintsTextAnd old new last = (text : List ℕ) × Appends old new (text ++ last)

-- The line that is printed in JSON by a program that stopped.
abbrev pub stop_object : Stop → List ℕ
stop_object (BadLine number) =
    codes "{\"refused\":{\"line\":" ++ decimal number ++ codes ",\"name\":\"BadLine\"}}\n"
stop_object Stops.NoMemory = codes "{\"refused\":{\"name\":\"NoMemory\"}}\n"
stop_object Unread = codes "{\"refused\":{\"name\":\"ReadFault\"}}\n"
stop_object Unwritten = []

-- The last line that is printed by a program that stopped.
abbrev pub last_text : Form → Stop → List ℕ
last_text Text stop = stop_text stop
last_text Json stop = stop_object stop

-- What a program printed that ended with this status; `last` says how it prints why. After a fault nothing is
-- claimed.
abbrev pub Prints : (Stop → List ℕ) → Status → Option (List ℕ) → Option (List ℕ) → Type 0
Prints last Done old new = PrintsText old new
Prints last BadTrace old new = (line : ℕ) × PrintsTextAnd old new (last (BadLine line))
Prints last NoMemory old new = PrintsTextAnd old new (last Stops.NoMemory)
Prints last Fault old new = ⊤
