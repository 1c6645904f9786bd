-- Which channel numbers a client uses, and which are free (RFC 8656, section 12).
use Rattle.std.specs.Prelude.{◌≡◌, ◌==◌, ◌+◌, ◌-◌, ◌≤◌, ◌<◌, ℕ, nat_lt, Bool, true, false, ◌||◌, ◌&&◌, List, [], ◌∷◌, get_or, Option, Some, None, if◌then◌else◌}
use Rattle.std.specs.List.{list_any}
use Rattle.turn_types_attributes.specs.TurnRegistry.{greatest_channel, least_channel}
use Rattle.turn_client_proto_allocation.specs.declared.allocation.Allocation.{Allocation}
use Rattle.turn_client_proto_allocation.specs.declared.channel.Channel.{Channel}
use Rattle.turn_client_proto_allocation.specs.declared.channel.ExpiredChannel.{ExpiredChannel}
use Rattle.turn_client_proto_allocation.specs.declared.channel.PendingChannel.{PendingChannel}
use Rattle.turn_client_proto_allocation.specs.Channels.{protected_until}

-- ---- which number is free

abbrev pub is_numbered : ℕ → Channel → Bool
is_numbered number c = c.number == number

abbrev pub is_requested_as : ℕ → PendingChannel → Bool
is_requested_as number c = c.channel == number

-- An expired channel has this number, and it may not be given to another channel yet.
abbrev pub protects : (number now : ℕ) → ExpiredChannel → Bool
protects number now c = c.number == number && nat_lt now (protected_until c)

-- The number is used by one of the allocation's channels: an active one, a pending one, or an expired one
-- that is protected.
unfoldable pub is_taken_in : (number now : ℕ) → Allocation → Bool
is_taken_in number now a = list_any (is_numbered number) a.channels
    || (list_any (is_requested_as number) a.pending_channels || list_any (protects number now) a.expired_channels)

abbrev pub is_taken : (number now : ℕ) → List Allocation → Bool
is_taken number now allocations = list_any (is_taken_in number now) allocations

-- The least number of the range that is not taken, or `None` if all are.
abbrev pub IsLeastUntaken : (ℕ → Bool) → Option ℕ → Type 0
IsLeastUntaken taken None = (n : ℕ) → least_channel ≤ n → n ≤ greatest_channel → taken n ≡ true
IsLeastUntaken taken (Some number) = (least_channel ≤ number) × (number ≤ greatest_channel) × (taken number ≡ false)
    × ((n : ℕ) → least_channel ≤ n → n < number → taken n ≡ true)

-- The least number that none of the channels uses.
abbrev pub IsLeastFree : List Allocation → ℕ → Option ℕ → Type 0
IsLeastFree allocations now free = IsLeastUntaken (λ n. is_taken n now allocations) free

-- ---- marks, one for each number of the range

abbrev pub is_marked : List Bool → ℕ → Bool
is_marked marks number = get_or marks (number - least_channel) false

-- The new marks are the old ones and those of the numbers that pass.
abbrev pub AreMarked : (ℕ → Bool) → List Bool → List Bool → Type 0
AreMarked passes old new = (number : ℕ) → least_channel ≤ number → number ≤ greatest_channel
    → is_marked new number ≡ (is_marked old number || passes number)

-- ---- no number is used twice

-- The count of elements that pass.
abbrev pub counted : {X : Type 0} → (X → Bool) → List X → ℕ
counted passes [] = 0
counted passes (x ∷ xs) = (if passes x then 1 else 0) + counted passes xs

-- The count of active and pending channels of the allocation with this number.
abbrev pub uses_in : ℕ → Allocation → ℕ
uses_in number a = counted (is_numbered number) a.channels + counted (is_requested_as number) a.pending_channels

-- The count of active and pending channels of all allocations with this number.
abbrev pub uses : ℕ → List Allocation → ℕ
uses number [] = 0
uses number (a ∷ others) = uses_in number a + uses number others

-- No two active or pending channels of a client have the same number.
abbrev pub AreDistinct : List Allocation → Type 0
AreDistinct allocations = (number : ℕ) → uses number allocations ≤ 1
