-- The times at which a request is transmitted, and the time at which it is given up (RFC 8489, section
-- 6.2.1).
use Rattle.std.specs.Prelude.{ℕ, ◌+◌, ◌-◌, ◌*◌, ◌^◌, min, max, nat_le, Bool, true, false, List, map, Option, Some, None}
use Rattle.std.specs.List.{range_with_len, sum}
use Rattle.stun_types_message.specs.Base.Times.{time_after}

-- The wait after the first transmission, the maximum wait, the number of transmissions, and the wait after
-- the last transmission. Waits are in nanoseconds.
pub record Waits : Type 0 where
  pub initial : ℕ
  pub most : Option ℕ
  pub retransmits : ℕ
  pub final : ℕ

-- A wait, limited to the maximum wait if there is one.
abbrev pub at_most : Option ℕ → ℕ → ℕ
at_most None nanos = nanos
at_most (Some most) nanos = min nanos most

-- The wait after a transmission, given its index: the initial wait, doubled after each transmission.
abbrev pub wait_at : Waits → ℕ → ℕ
wait_at waits position = at_most waits.most (waits.initial * 2 ^ position)

-- A wait is at least the maximum wait.
abbrev pub is_reached : Option ℕ → ℕ → Bool
is_reached None nanos = false
is_reached (Some most) nanos = nat_le most nanos

-- The maximum wait, or 0 if there is none.
abbrev pub greatest_wait : Option ℕ → ℕ
greatest_wait None = 0
greatest_wait (Some most) = most

-- The waits after the first `count` transmissions.
abbrev pub waits_after : Waits → ℕ → List ℕ
waits_after waits count = map (wait_at waits) (range_with_len 0 count)

-- How often a request is transmitted: once over TCP, otherwise at least once.
abbrev pub transmissions : Bool → Waits → ℕ
transmissions true waits = 1
transmissions false waits = max 1 waits.retransmits

-- The time of a transmission, given its index: after the waits of the transmissions before it.
abbrev pub slot_at : ℕ → Waits → ℕ → ℕ
slot_at sent waits position = time_after sent (sum (waits_after waits position))

-- The times of all transmissions.
abbrev pub slots : Bool → ℕ → Waits → List ℕ
slots is_tcp sent waits = map (slot_at sent waits) (range_with_len 0 (transmissions is_tcp waits))

-- The time at which a request is given up, over TCP too: the final wait after the last transmission that
-- there would be over UDP.
abbrev pub end_at : ℕ → Waits → ℕ
end_at sent waits = time_after sent (sum (waits_after waits (transmissions false waits - 1)) + waits.final)
