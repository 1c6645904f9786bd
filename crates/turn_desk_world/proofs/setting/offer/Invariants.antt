use Rattle.std.proofs.Common.{◌≡◌, ◌++◌, length}
use Rattle.turn_desk_world.proofs.setting.offer.Given as goal

-- The supported algorithms followed by those that are left are all algorithms; nothing else changes.
abbrev pub invariant-loop-algorithm : goal.invariant-loop-algorithm
invariant-loop-algorithm l = (l.config ≡ record l.fn.config { algorithms = l.config.algorithms }) × (l.config.algorithms ++ l.left ≡ l.fn.algorithms)

abbrev pub decreases-loop-algorithm : goal.decreases-loop-algorithm
decreases-loop-algorithm l = length l.left
