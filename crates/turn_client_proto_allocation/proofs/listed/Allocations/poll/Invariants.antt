use Rattle.std.proofs.Common.{◌≡◌, ◌++◌, map, take, drop}
use Rattle.turn_client_proto_allocation.specs.Polling.{polled}
use Rattle.turn_client_proto_allocation.proofs.listed.Allocations.poll.Given as goal

-- The elements so far are changed, and the others are as they were.
abbrev pub invariant-loop-allocation : goal.invariant-loop-allocation
invariant-loop-allocation l = l.allocation-items ≡ map (polled l.ended) (take l.allocation-index l.initial.allocation-items) ++ drop l.allocation-index l.initial.allocation-items
