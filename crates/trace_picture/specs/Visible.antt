-- What is printed, by a reader and a writer whose contents are known.
use Rattle.std.specs.Prelude.{ℕ, List, Option, codes, ⊤}
use Rattle.std.specs.Io.KnownBytes.{Appends, Consumes, IsAtEnd}
use Rattle.line_io.specs.Stop.{bad_text}
use Rattle.line_io.specs.declared.status.Status.{Status}
use Rattle.line_io.specs.declared.status.Status.TheVariants.{Done, BadTrace, NoMemory, Fault}
use Rattle.trace_picture.specs.Pictures.{IsPicture}

-- The picture of everything that the reader had is printed.
pub record Draws (old new before after : Option (List ℕ)) : Type 0 where
  pub input : List ℕ
  pub svg : List ℕ
  pub read : Consumes old new input
  pub end : IsAtEnd new
  pub transmitted : IsPicture input svg
  pub printed : Appends before after svg

-- What a program prints that ends with this status. After a fault nothing is claimed.
abbrev pub Prints : Status → (old new before after : Option (List ℕ)) → Type 0
Prints Done old new before after = Draws old new before after
Prints BadTrace old new before after = (line : ℕ) × Appends before after (bad_text line)
Prints NoMemory old new before after = Appends before after (codes "no memory\n")
Prints Fault old new before after = ⊤
