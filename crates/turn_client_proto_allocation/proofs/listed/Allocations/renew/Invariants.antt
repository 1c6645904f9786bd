use Rattle.std.proofs.Common.{◌≡◌, ◌++◌, map, take, drop}
use Rattle.turn_client_proto_allocation.specs.Refreshing.{renewed}
use Rattle.turn_client_proto_allocation.proofs.listed.Allocations.renew.Given as goal

-- The elements so far are changed, and the others are as they were.
abbrev pub invariant-loop-allocation : goal.invariant-loop-allocation
invariant-loop-allocation l = l.allocation-items ≡ map (renewed l.least l.transaction_id l.now l.lifetime) (take l.allocation-index l.initial.allocation-items) ++ drop l.allocation-index l.initial.allocation-items
