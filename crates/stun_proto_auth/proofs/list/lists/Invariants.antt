use Rattle.std.proofs.Common.{◌≡◌, length}
use Rattle.stun_proto_auth.specs.Lists.{lists}
use Rattle.stun_proto_auth.proofs.list.lists.Given as goal

-- The algorithm is among the remaining entries exactly if it is among all.
abbrev pub invariant-loop-header : goal.invariant-loop-header
invariant-loop-header l = lists l.left l.fn.algorithm ≡ lists l.fn.value l.fn.algorithm

abbrev pub decreases-loop-header : goal.decreases-loop-header
decreases-loop-header l = length l.left
