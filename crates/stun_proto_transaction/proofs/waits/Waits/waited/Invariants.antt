use Rattle.std.proofs.Common.{◌-◌, ◌≡◌, ◌*◌, ◌^◌, ◌≤◌}
use Rattle.std.specs.List.{sum}
use Rattle.stun_proto_transaction.specs.Schedule.{waits_after}
use Rattle.stun_proto_transaction.proofs.waits.Waits.waited.Given as goal

-- The wait is that at the index, and the total is the sum of the waits before it.
abbrev pub invariant-loop-position : goal.invariant-loop-position
invariant-loop-position l = (l.position ≤ l.fn.count)
    × (l.wait ≡ l.fn.self.initial * 2 ^ l.position)
    × (l.total ≡ sum (waits_after l.fn.self l.position))

abbrev pub decreases-loop-position : goal.decreases-loop-position
decreases-loop-position l = l.fn.count - l.position
