use Rattle.std.proofs.Common.{◌≡◌, length}
use Rattle.turn_client_proto_allocation.specs.Listed.{relayed_listed}
use Rattle.turn_client_proto.proofs.getters.RelayedAddressesIterIterator.next.Given as goal

-- The elements that the iterator has yet to visit are those that it has yet to return.
abbrev pub invariant-loop-first : goal.invariant-loop-first
invariant-loop-first l = relayed_listed l.left ≡ l.fn.self

abbrev pub decreases-loop-first : goal.decreases-loop-first
decreases-loop-first l = length l.left
