-- The transaction IDs that a client generates of its seed (RFC 8489, section 5).
use Rattle.std.specs.Prelude.{◌≢◌, ℕ, ◌<◌, List}
use Rattle.rand_chacha.specs.ChaCha.{of_seed}
use Rattle.turn_desk_step_laws.specs.TurnRuns.StunWire.{stun_wire}
use Rattle.turn_client_proto_step_laws.specs.Sound.{stream_from}

-- The transaction ID at this index of those that the generator of a client of this seed gives. The first has
-- index 0.
abbrev pub number_of : (seed : List ℕ) → (index : ℕ) → ℕ
number_of seed index = stun_wire.number (stream_from (of_seed seed)) index

-- The first `count` of them are pairwise different. A client has to choose a new transaction ID for each new
-- transaction (RFC 8489, section 5). This is the premise `AreDistinct` of the theorem on runs, for a client
-- of this seed that was new when the run began (`first_client`).
abbrev pub NumbersDiffer : (seed : List ℕ) → (count : ℕ) → Type 0
NumbersDiffer seed count = (i j : ℕ) → i < j → j < count → number_of seed i ≢ number_of seed j
