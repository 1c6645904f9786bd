use Rattle.std.proofs.Common.{◌≡◌, ◌-◌, true, vec_len}
use Rattle.stun_proto_transaction.specs.Watched.{IsStored}
use Rattle.stun_proto_transaction.proofs.times.Times.least.Given as goal

-- The invariant holds, the bound is exact, and the times are unchanged.
abbrev pub invariant-loop-self : goal.invariant-loop-self
invariant-loop-self l =
    IsStored l.self-inside.times.items l.self-inside.passed l.self-inside.least l.self-inside.is_exact ×
    (l.self-inside.times ≡ l.initial.self-inside.times) ×
    (l.self-inside.is_exact ≡ true)

abbrev pub decreases-loop-self : goal.decreases-loop-self
decreases-loop-self l = vec_len l.self-inside.times - l.self-inside.passed
