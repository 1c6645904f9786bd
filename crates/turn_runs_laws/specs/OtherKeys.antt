-- Runs of the small client in which it uses a realm that nobody named, handles a response that never arrived,
-- or gains an address by a response that validates under another key than its own.
use Rattle.std.specs.Prelude.{ℕ, List, [], ◌∷◌, map, Some}
use Rattle.turn_runs.specs.StunTypesWire.declared.algorithm.IntegrityAlgorithm.TheVariants.{Sha256}
use Rattle.turn_runs.specs.Runs.{Step, AtClient}
use Rattle.turn_runs.specs.Steps.{Call}
use Rattle.turn_runs_laws.specs.Handshakes.{Addresses}
use Rattle.turn_runs_laws.specs.Rounds.{asks_next, quiet, takes_next}
use Rattle.turn_runs_laws.specs.SmallWords.{Client, Core, Fresh, Idle, Waiting, digest_under, home, key_small}
use Rattle.turn_runs_laws.specs.Ungranted.{forget}

-- The client comes to remember the server core's realm, and makes another call with it, though no challenge
-- arrived and no server core did anything.
abbrev pub keeps_unnamed : List (Step Core ℕ)
keeps_unnamed = AtClient (quiet (Idle 0) (Idle 0)) ∷ AtClient (quiet Fresh (Idle 0)) ∷ []

-- The client requests an address and handles the server core's response, which never arrived. It gains
-- nothing by it.
abbrev pub takes_unsent : List (Step Core ℕ)
takes_unsent =
    AtClient (record (quiet (Waiting 0) (Waiting 0)) { handled = (1 ∷ 0 ∷ []) ∷ [] })
    ∷ AtClient (record (quiet (Idle 0) (Waiting 0)) { transmitted = Some (0 ∷ 0 ∷ []) }) ∷ []

-- A response to the client's first request, with the digest under this key.
abbrev pub answer_under : (key : List ℕ) → List ℕ
answer_under key = 4 ∷ 0 ∷ digest_under key ∷ []

-- A response whose digest was made by SHA-256, under the client's own key for SHA-256.
abbrev pub answer_by_sha256 : List ℕ
answer_by_sha256 = 5 ∷ 0 ∷ digest_under (key_small home Sha256) ∷ []

module _ (a : Addresses) where
  -- These bytes arrive as a response, and the client gains by them what its first request is for.
  abbrev pub takes_answer : List ℕ → Call Client
  takes_answer bytes = record (takes_next a 0) { came = bytes ∷ []; handled = bytes ∷ [] }

  abbrev pub takes_under : (key : List ℕ) → Call Client
  takes_under key = takes_answer (answer_under key)

  -- The client does so after it transmitted that request, and no server core did anything.
  abbrev pub gains_under : (key : List ℕ) → List (Step Core ℕ)
  gains_under key = map forget (AtClient (takes_under key) ∷ AtClient (asks_next 0) ∷ [])
