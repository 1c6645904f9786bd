use Rattle.std.proofs.Common.{◌≡◌, ◌++◌, map, take, drop}
use Rattle.turn_client_proto_peers.specs.Permission.Granted.{renewed}
use Rattle.turn_client_proto_peers.proofs.permission.granted.renew.Given as goal

-- The elements so far are changed, and the others are as they were.
abbrev pub invariant-loop-allocation : goal.invariant-loop-allocation
invariant-loop-allocation l = l.allocations ≡ map (renewed l.transaction_id l.now) (take l.allocation-index l.fn.allocations) ++ drop l.allocation-index l.fn.allocations
