use Rattle.std.proofs.Common.{◌≡◌, ℕ, ◌-◌, ◌<◌, get_or, vec_len}
use Rattle.std.specs.Prelude.{◌⊎◌}
use Rattle.stun_types_message.specs.Base.Times.{greatest_time}
use Rattle.stun_proto_transaction.specs.Watched.{IsStored}
use Rattle.stun_proto_transaction.proofs.times.Times.first_until.Given as goal

-- The invariant holds, and the times are unchanged. Those before the cursor are later than `now`. The bound
-- is later too, or is the greatest possible time.
abbrev pub invariant-loop-self : goal.invariant-loop-self
invariant-loop-self l =
    IsStored l.self-inside.times.items l.self-inside.passed l.self-inside.least l.self-inside.is_exact ×
    (l.self-inside.times ≡ l.initial.self-inside.times) ×
    ((k : ℕ) → k < l.self-inside.passed → l.now < get_or l.self-inside.times.items k 0) ×
    ((l.now < l.self-inside.least) ⊎ (l.self-inside.least ≡ greatest_time))

abbrev pub decreases-loop-self : goal.decreases-loop-self
decreases-loop-self l = vec_len l.self-inside.times - l.self-inside.passed
