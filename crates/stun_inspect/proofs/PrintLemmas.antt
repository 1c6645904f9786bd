-- What is printed, one text after another.
use Rattle.std.proofs.Common.{ℕ, ◌≡◌, ◌≢◌, List, [], ◌++◌}
use Rattle.std.specs.Prelude.{Option, Result, Ok, Err}
use Rattle.std.specs.Io.KnownBytes.{Appends}
use Rattle.line_io.specs.declared.status.Status.{Status}
use Rattle.line_io.specs.declared.status.Status.TheVariants.{Done, BadTrace, NoMemory, Fault}
use Rattle.line_io.specs.declared.stop.Stop.{Stop}
use Rattle.line_io.specs.declared.stop.Stop.TheVariants as Stops
use Rattle.line_io.specs.Stop.{status_of}
use Rattle.line_io.proofs.AppendLemmas.{appends_nothing, appends_on}
use Rattle.stun_inspect.specs.Printed.{Prints, PrintsText, PrintsTextAnd}

-- Nothing is printed.
pub prints_none : (old : Option (List ℕ)) → PrintsText old old
prints_none old = ([], appends_nothing old)

-- A text is printed after another.
pub prints_on : (old mid new : Option (List ℕ)) → PrintsText old mid → PrintsText mid new → PrintsText old new
prints_on old mid new first second = (first.0 ++ second.0, appends_on old mid new first.0 second.0 first.1 second.1)

-- A last text is printed after others.
prints_last : (old mid new : Option (List ℕ)) (last : List ℕ) → PrintsText old mid → Appends mid new last → PrintsTextAnd old new last
prints_last old mid new last first second = (first.0, appends_on old mid new first.0 last first.1 second)

-- How a program that stopped ends.
pub ended : (last : Stop → List ℕ) (stop : Stop) (status : Status) (old mid new : Option (List ℕ))
    → ((◌≡◌ {A = Result (Unit {0}) Stop} (Err stop) (Err Stops.Unwritten) → ⊥) → PrintsText old mid) → (status ≢ Fault → status ≡ status_of stop)
    → (status ≢ Fault → Appends mid new (last stop)) → Prints last status old new
ended last stop Fault old mid new texts same printed = tt
ended last (Stops.BadLine n) BadTrace old mid new texts same printed =
    (n, prints_last old mid new (last (Stops.BadLine n)) (texts (λ e. cc)) (printed (λ e. cc)))
ended last (Stops.BadLine n) Done old mid new texts same printed = let e = same (λ q. cc) in cc
ended last (Stops.BadLine n) NoMemory old mid new texts same printed = let e = same (λ q. cc) in cc
ended last Stops.NoMemory NoMemory old mid new texts same printed =
    prints_last old mid new (last Stops.NoMemory) (texts (λ e. cc)) (printed (λ e. cc))
ended last Stops.NoMemory Done old mid new texts same printed = let e = same (λ q. cc) in cc
ended last Stops.NoMemory BadTrace old mid new texts same printed = let e = same (λ q. cc) in cc
ended last Stops.Unread Done old mid new texts same printed = let e = same (λ q. cc) in cc
ended last Stops.Unread BadTrace old mid new texts same printed = let e = same (λ q. cc) in cc
ended last Stops.Unread NoMemory old mid new texts same printed = let e = same (λ q. cc) in cc
ended last Stops.Unwritten Done old mid new texts same printed = let e = same (λ q. cc) in cc
ended last Stops.Unwritten BadTrace old mid new texts same printed = let e = same (λ q. cc) in cc
ended last Stops.Unwritten NoMemory old mid new texts same printed = let e = same (λ q. cc) in cc

pub ok_not_err : {A E : Type 0} (x : A) (e : E) → Ok x ≢ Err e
ok_not_err x e h = cc
