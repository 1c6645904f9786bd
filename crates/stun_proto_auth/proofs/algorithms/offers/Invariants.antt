use Rattle.std.proofs.Common.{◌≡◌, length}
use Rattle.stun_proto_auth.specs.Offers.{offers}
use Rattle.stun_proto_auth.proofs.algorithms.offers.Given as goal

-- The algorithm is among the remaining entries exactly if it is among all.
abbrev pub invariant-loop-entry : goal.invariant-loop-entry
invariant-loop-entry l = offers l.left l.fn.algorithm ≡ offers l.fn.value l.fn.algorithm

abbrev pub decreases-loop-entry : goal.decreases-loop-entry
decreases-loop-entry l = length l.left
