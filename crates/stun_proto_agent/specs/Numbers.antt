-- How transaction IDs become outstanding and stop being so (RFC 8489, sections 6.1 to 6.3).
use Rattle.std.specs.Prelude.{◌≡◌, ◌≢◌, ◌≤◌, ℕ, Some, None}
use Rattle.std.specs.FinMap as map
use Rattle.stun_proto_transaction.specs.Wire.Grammar.{number_at}
use Rattle.stun_proto_transaction.specs.Agents.{Transaction}
use Rattle.stun_proto_agent.specs.State.{Agent}

-- The transaction ID is no longer outstanding, and every other entry is unchanged.
pub record IsWithout (old : Agent) (transaction_id : ℕ) (new : Agent) : Type 0 where
  pub gone : map.get new.outstanding transaction_id ≡ None
  pub others : (other : ℕ) → other ≢ transaction_id → map.get new.outstanding other ≡ map.get old.outstanding other

-- A request was outstanding before under the same transaction ID. Its bytes, its target and the time of its
-- first transmission are unchanged, and its count of transmissions has not decreased.
pub record WasOutstanding (old : Agent) (transaction_id : ℕ) (t : Transaction) : Type 0 where
  pub before : Transaction
  pub there : map.get old.outstanding transaction_id ≡ Some before
  pub same_bytes : t.bytes ≡ before.bytes
  pub same_target : t.to ≡ before.to
  pub same_time : t.sent ≡ before.sent
  pub counted : before.used ≤ t.used

-- Every request that is outstanding afterwards was outstanding before.
abbrev pub NothingNew : Agent → Agent → Type 0
NothingNew old new = (transaction_id : ℕ) (t : Transaction)
    → map.get new.outstanding transaction_id ≡ Some t → WasOutstanding old transaction_id t

-- Each outstanding request is stored under the transaction ID in its bytes.
abbrev pub ShowsNumbers : Agent → Type 0
ShowsNumbers agent = (transaction_id : ℕ) (t : Transaction)
    → map.get agent.outstanding transaction_id ≡ Some t → number_at t.bytes ≡ transaction_id
