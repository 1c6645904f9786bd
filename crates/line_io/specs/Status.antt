-- How a program that reads lines ends.
use Rattle.std.specs.Prelude.{ℕ}
use Rattle.line_io.specs.declared.status.Status.{Status}
use Rattle.line_io.specs.declared.status.Status.TheVariants.{Done, BadTrace, NoMemory, Fault}

-- The exit status.
abbrev pub number_of : Status → ℕ
number_of Done = 0
number_of BadTrace = 1
number_of NoMemory = 2
number_of Fault = 3
