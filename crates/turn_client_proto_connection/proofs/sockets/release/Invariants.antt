use Rattle.std.proofs.Common.{◌≡◌, ◌++◌, map, take, drop}
use Rattle.turn_client_proto_connection.specs.Sockets.{release}
use Rattle.turn_client_proto_connection.proofs.sockets.release.Given as goal

-- The elements so far are changed, and the others are as they were.
abbrev pub invariant-loop-allocation : goal.invariant-loop-allocation
invariant-loop-allocation l = l.allocations ≡ map (release l.connection l.peer) (take l.allocation-index l.fn.allocations) ++ drop l.allocation-index l.fn.allocations
