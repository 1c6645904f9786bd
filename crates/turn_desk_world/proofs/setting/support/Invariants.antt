use Rattle.std.proofs.Common.{◌≡◌, ◌++◌, length}
use Rattle.turn_desk_world.proofs.setting.support.Given as goal

-- The supported algorithms followed by those that are left are all algorithms; nothing else changes.
abbrev pub invariant-loop-algorithm : goal.invariant-loop-algorithm
invariant-loop-algorithm l = (l.auth ≡ record l.fn.auth { algorithms = l.auth.algorithms }) × (l.auth.algorithms ++ l.left ≡ l.fn.algorithms)

abbrev pub decreases-loop-algorithm : goal.decreases-loop-algorithm
decreases-loop-algorithm l = length l.left
