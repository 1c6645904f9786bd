-- What is printed for a line that can't be read.
use Rattle.std.specs.Prelude.{ℕ, List, codes}
use Rattle.line_io.specs.declared.refusal.LineError.{LineError}
use Rattle.line_io.specs.declared.refusal.LineError.TheVariants.{Bad, NoMemory}

-- The text of an error.
abbrev pub name_of_line_error : LineError → List ℕ
name_of_line_error Bad = codes "bad line"
name_of_line_error NoMemory = codes "no memory"
