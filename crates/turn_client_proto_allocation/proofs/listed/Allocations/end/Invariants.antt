use Rattle.std.proofs.Common.{◌≡◌, ◌++◌, map, take, drop}
use Rattle.turn_client_proto_allocation.specs.Refreshing.{ended}
use Rattle.turn_client_proto_allocation.proofs.listed.Allocations.end.Given as goal

-- The elements so far are changed, and the others are as they were.
abbrev pub invariant-loop-allocation : goal.invariant-loop-allocation
invariant-loop-allocation l = l.allocation-items ≡ map (ended l.now) (take l.allocation-index l.initial.allocation-items) ++ drop l.allocation-index l.initial.allocation-items
