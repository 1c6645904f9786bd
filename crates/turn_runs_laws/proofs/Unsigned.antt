-- What no step of a run in rounds signs: no call that transmits nothing, no request of the client and no
-- response of the server core.
use Rattle.std.proofs.Common.{◌≡◌, ℕ, zero, suc, List, [], ◌∷◌, None, refl, inl, inr}
use Rattle.turn_runs.specs.Runs.{Step, AtClient, AtDesk, AtSome}
use Rattle.turn_runs.specs.Steps.{Call}
use Rattle.turn_runs_laws.specs.Handshakes.{Addresses}
use Rattle.turn_runs_laws.specs.Rounds.{asks_next, processes, processes_challenge, processes_forged, rounds, shows_all, takes_next}
use Rattle.turn_runs_laws.specs.SmallWords.{Client}

abbrev pub first_of : List ℕ → ℕ
first_of [] = 0
first_of (n ∷ rest) = n

module _ (a : Addresses) (Signs : Step Client ℕ → Type 0) (no_draw : (call : Call Client) → call.transmitted ≡ None → Signs (AtClient call) → ⊥)
    (no_request : (m : ℕ) → Signs (AtClient (asks_next m)) → ⊥) (no_desk : (m : ℕ) → Signs (AtDesk m) → ⊥) where
  pub signed_nowhere : (m : ℕ) → AtSome (λ s _. Signs s) (rounds a m) → ⊥
  signed_nowhere zero some = elim some [
    | inl s ↦ no_draw processes_challenge refl s
    | inr more1 ↦ elim more1 [
      | inl s ↦ no_draw processes_forged refl s
      | inr none ↦ none
    ]
  ]
  signed_nowhere (suc m) some = elim some [
    | inl s ↦ no_draw (processes (suc m) (0 ∷ m ∷ [])) refl s
    | inr more2 ↦ elim more2 [
      | inl s ↦ no_draw (processes (suc m) (1 ∷ m ∷ [])) refl s
      | inr more3 ↦ elim more3 [
        | inl s ↦ no_draw (shows_all a (suc m)) refl s
        | inr more4 ↦ elim more4 [
          | inl s ↦ no_draw (takes_next a m) refl s
          | inr more5 ↦ elim more5 [
            | inl s ↦ no_desk m s
            | inr more6 ↦ elim more6 [
              | inl s ↦ no_request m s
              | inr before ↦ signed_nowhere m before
            ]
          ]
        ]
      ]
    ]
  ]
