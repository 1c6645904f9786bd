-- A wider premise than `NoForgery`: it also covers messages with any transaction ID that arrive at the
-- client.
use Rattle.std.specs.Prelude.{ℕ, List}
use Rattle.turn_runs.specs.Members.{IsIn}
use Rattle.turn_runs.specs.Names.{IntegrityAlgorithm}
use Rattle.turn_runs.specs.Runs.{Step, AtClient, AtDesk, AtEach, IsAuthentic, IsKeyOf, WasSigned}
use Rattle.turn_runs.specs.Words.{Words}

module _ {C D : Type 0} (W : Words C D) where
  abbrev pub IsAuthenticForAnyNumber : (first : C) → (count : ℕ) → (whole : List (Step C D)) → Step C D
      → List (Step C D) → Type 0
  IsAuthenticForAnyNumber first count whole (AtClient call) earlier =
      (bytes key text : List ℕ) (a : IntegrityAlgorithm) → IsIn bytes call.came →
      IsKeyOf W first whole a key → W.wire.Validates bytes key a text → WasSigned W key a text earlier
  IsAuthenticForAnyNumber first count whole (AtDesk d) earlier =
      IsAuthentic W first count whole (AtDesk d) earlier

  abbrev pub NoForgeryForAnyNumber : (first : C) → (count : ℕ) → List (Step C D) → Type 0
  NoForgeryForAnyNumber first count run = AtEach (IsAuthenticForAnyNumber first count run) run
