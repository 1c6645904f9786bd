-- What is printed if there is no picture.
use Rattle.std.proofs.Common.{ℕ, ◌≡◌, ◌≢◌, List, ◌++◌, ◌∙◌, ap}
use Rattle.std.specs.Prelude.{Option, Some, None, Result, Err, codes}
use Rattle.std.specs.Io.KnownBytes.{Appends, Keeps}
use Rattle.line_io.specs.declared.status.Status.{Status}
use Rattle.line_io.specs.declared.status.Status.TheVariants.{Done, BadTrace, NoMemory, Fault}
use Rattle.line_io.specs.declared.stop.Stop.{Stop}
use Rattle.line_io.specs.declared.stop.Stop.TheVariants as Stops
use Rattle.line_io.specs.Stop.{bad_text, status_of, stop_text}
use Rattle.trace_picture.specs.Visible.{Prints}

-- A text is printed after nothing.
after_stored : (old mid new : Option (List ℕ)) (text : List ℕ) → Keeps old mid → Appends mid new text → Appends old new text
after_stored None mid new text stored printed = tt
after_stored (Some a) None new text stored printed = absurd stored
after_stored (Some a) (Some b) None text stored printed = absurd printed
after_stored (Some a) (Some b) (Some c) text stored printed = printed ∙ ap (λ (head : List ℕ). head ++ text) stored

-- How a program that stopped ends.
pub ended : (stop : Stop) (status : Status) (read left old mid new : Option (List ℕ))
    → ((◌≡◌ {A = Result (Unit {0}) Stop} (Err stop) (Err Stops.Unwritten) → ⊥) → Keeps old mid) → (status ≢ Fault → status ≡ status_of stop)
    → (status ≢ Fault → Appends mid new (stop_text stop)) → Prints status read left old new
ended stop Fault read left old mid new stored same printed = tt
ended (Stops.BadLine n) BadTrace read left old mid new stored same printed = (n, after_stored old mid new (bad_text n) (stored (λ e. cc)) (printed (λ e. cc)))
ended (Stops.BadLine n) Done read left old mid new stored same printed = let e = same (λ q. cc) in cc
ended (Stops.BadLine n) NoMemory read left old mid new stored same printed = let e = same (λ q. cc) in cc
ended Stops.NoMemory NoMemory read left old mid new stored same printed = after_stored old mid new (codes "no memory\n") (stored (λ e. cc)) (printed (λ e. cc))
ended Stops.NoMemory Done read left old mid new stored same printed = let e = same (λ q. cc) in cc
ended Stops.NoMemory BadTrace read left old mid new stored same printed = let e = same (λ q. cc) in cc
ended Stops.Unread Done read left old mid new stored same printed = let e = same (λ q. cc) in cc
ended Stops.Unread BadTrace read left old mid new stored same printed = let e = same (λ q. cc) in cc
ended Stops.Unread NoMemory read left old mid new stored same printed = let e = same (λ q. cc) in cc
ended Stops.Unwritten Done read left old mid new stored same printed = let e = same (λ q. cc) in cc
ended Stops.Unwritten BadTrace read left old mid new stored same printed = let e = same (λ q. cc) in cc
ended Stops.Unwritten NoMemory read left old mid new stored same printed = let e = same (λ q. cc) in cc
