-- A call of a client that handles several messages is a chain of calls that handle one each.
use Rattle.std.specs.Prelude.{◌≡◌, List, [], ◌∷◌, map}
use Rattle.turn_runs.specs.Steps.{Call, ClientStep}
use Rattle.turn_runs.specs.Words.{Wire, ClientWords}
use Rattle.turn_runs.specs.Runs.{Step, AtClient, AtEach}

-- The calls, the newest first, lead from state `before` to state `after`.
abbrev pub IsChain : {C : Type 0} → C → List (Call C) → C → Type 0
IsChain before [] after = after ≡ before
IsChain before (call ∷ earlier) after = (after ≡ call.after) × IsChain before earlier call.before

abbrev pub steps_of : {C D : Type 0} → List (Call C) → List (Step C D)
steps_of calls = map (λ call. AtClient call) calls

-- Each call meets the client's contract (`ClientStep`).
abbrev pub AreLawful : {V : Wire} {C : Type 0} → ClientWords V C → List (Call C) → Type 0
AreLawful K calls = AtEach (λ call _. ClientStep K call) calls
