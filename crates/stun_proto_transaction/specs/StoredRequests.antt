-- The outstanding requests, as contracts see them.
use Rattle.std.specs.Prelude.{◌≡◌, ◌⊎◌, ℕ, ◌<◌, ◌≤◌, max, Bool, true, false, List, length, slice_index_or, Some}
use Rattle.std.specs.FinMap as map
use Rattle.std.specs.Ordering.{nat_cmp}
use Rattle.stun_proto_transaction.specs.Agents.{Transaction, is_due, is_ended, next_time}

-- Whether the transport is TCP, and the requests by transaction ID.
pub record Requests : Type 0 where
  pub is_tcp : Bool
  pub by_number : map.FinMap nat_cmp Transaction

-- The requests, with one stored under a transaction ID.
abbrev pub with_number : Requests → ℕ → Transaction → Requests
with_number old transaction_id t = record old { by_number = map.insert old.by_number transaction_id t }

-- No entry of a map passes a test.
abbrev pub NonePasses : {X : Type 0} → (X → Bool) → map.FinMap nat_cmp X → Type 0
NonePasses {X} test entries =
    (transaction_id : ℕ) (value : X) → map.get entries transaction_id ≡ Some value → test value ≡ false

-- No request has ended at `now`.
abbrev pub NoneEnded : Requests → ℕ → Type 0
NoneEnded requests now = NonePasses (is_ended now) requests.by_number

-- No transmission is due at `now`.
abbrev pub NoneDue : Requests → ℕ → Type 0
NoneDue requests now = NonePasses (is_due requests.is_tcp now) requests.by_number

-- The time `until` is the earliest next time of the requests, limited to the range from `now` to `most`.
pub record IsNext (requests : Requests) (now most until : ℕ) : Type 0 where
  pub from_now : now ≤ until
  pub within : until ≤ most
  pub no_later : (transaction_id : ℕ) (t : Transaction) → map.get requests.by_number transaction_id ≡ Some t
      → until ≤ max now (next_time requests.is_tcp t)
  pub reached : (until ≡ most)
      ⊎ ((transaction_id : ℕ) × (t : Transaction) × (map.get requests.by_number transaction_id ≡ Some t)
      × (until ≡ max now (next_time requests.is_tcp t)))

-- The index is the first one, starting at `from`, whose request passes a test.
pub record IsFirstFrom (test : Transaction → Bool) (entries : List (ℕ × Transaction)) (from position : ℕ)
    : Type 0 where
  pub from_there : from ≤ position
  pub within : position < length entries
  pub passes : (d : ℕ × Transaction) → test (slice_index_or entries position d).1 ≡ true
  pub first : (j : ℕ) (d : ℕ × Transaction) → from ≤ j → j < position
      → test (slice_index_or entries j d).1 ≡ false

-- No request from index `from` on passes a test.
abbrev pub NoneFrom : (Transaction → Bool) → List (ℕ × Transaction) → ℕ → Type 0
NoneFrom test entries from = (j : ℕ) (d : ℕ × Transaction) → from ≤ j → j < length entries
    → test (slice_index_or entries j d).1 ≡ false
