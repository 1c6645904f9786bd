use Rattle.std.proofs.Common.{◌≡◌, ◌++◌, map, take, drop}
use Rattle.turn_client_proto_connection.specs.Expiring.{polled}
use Rattle.turn_client_proto_connection.proofs.expire.poll.Given as goal

-- The elements so far are changed, and the others are as they were.
abbrev pub invariant-loop-allocation : goal.invariant-loop-allocation
invariant-loop-allocation l = l.allocations ≡ map (polled l.ended l.now) (take l.allocation-index l.fn.allocations) ++ drop l.allocation-index l.fn.allocations
