-- The invariant of a list of times: a lower bound on those before a cursor.
use Rattle.std.specs.Prelude.{◌≡◌, ◌⊎◌, ℕ, ◌<◌, ◌≤◌, Bool, true, List, length, slice_index}
use Rattle.stun_types_message.specs.Base.Times.{greatest_time}
use Rattle.stun_proto_transaction.specs.declared.times.Times.TheInside.{Inside}

-- The time `least` is not later than any of the first `passed` times.
abbrev pub IsBelow : List ℕ → ℕ → ℕ → Type 0
IsBelow times passed least = (k : ℕ) → k < passed → least ≤ slice_index times k

-- The time `least` is one of the first `passed` times, or the greatest possible time.
abbrev pub IsReached : List ℕ → ℕ → ℕ → Type 0
IsReached times passed least =
    (least ≡ greatest_time) ⊎ ((k : ℕ) × (k < passed) × (slice_index times k ≡ least))

-- The cursor is within the list. The bound is not later than any time before the cursor. If it is marked as
-- exact, it is one of them or the greatest possible time.
pub record IsStored (times : List ℕ) (passed least : ℕ) (exact : Bool) : Type 0 where
  pub within : passed ≤ length times
  pub most : least ≤ greatest_time
  pub below : IsBelow times passed least
  pub reached : exact ≡ true → IsReached times passed least

-- The invariant, for the fields of the list.
abbrev pub IsWatched : Inside → Type 0
IsWatched m = IsStored m.times.items m.passed m.least m.is_exact
