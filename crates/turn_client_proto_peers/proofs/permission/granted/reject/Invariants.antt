use Rattle.std.proofs.Common.{◌≡◌, ◌++◌, map, take, drop}
use Rattle.turn_client_proto_peers.specs.Permission.Granted.{rejected}
use Rattle.turn_client_proto_peers.proofs.permission.granted.reject.Given as goal

-- The elements so far are changed, and the others are as they were.
abbrev pub invariant-loop-allocation : goal.invariant-loop-allocation
invariant-loop-allocation l = l.allocations ≡ map (rejected l.transaction_id) (take l.allocation-index l.fn.allocations) ++ drop l.allocation-index l.fn.allocations
