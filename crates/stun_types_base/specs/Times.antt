-- Points in time, as nanoseconds since a start.
use Rattle.std.specs.Prelude.{ℕ, ◌+◌, ◌-◌, ◌^◌, min}

-- The greatest time.
abbrev pub greatest_time : ℕ
greatest_time = 2 ^ 64 - 1

-- The time this many nanoseconds later, or the greatest time if that is later still.
abbrev pub time_after : ℕ → ℕ → ℕ
time_after time nanos = min (time + nanos) greatest_time
