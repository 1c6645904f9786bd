use Rattle.std.proofs.Common.{◌≡◌, ◌≤◌, length, take}
use Rattle.turn_client_proto_allocation.specs.Listed.{relayed_listed}
use Rattle.turn_client_proto.proofs.getters.RelayedAddressesIterExactSizeIterator.len.Given as goal

-- The elements visited so far are counted.
abbrev pub invariant-loop-allocation : goal.invariant-loop-allocation
invariant-loop-allocation l = (l.count ≡ length (relayed_listed (take l.allocation-index l.allocation-items))) × (l.count ≤ l.allocation-index)
