use Rattle.std.proofs.Common.{◌≡◌, ◌++◌, take}
use Rattle.turn_client_proto_connection.specs.Expiring.{all_gone}
use Rattle.turn_client_proto_connection.proofs.expire.close_all_gone.Given as goal

-- The sockets of the allocations so far are to be closed.
abbrev pub invariant-loop-allocation : goal.invariant-loop-allocation
invariant-loop-allocation l = l.closing ≡ l.fn.closing ++ all_gone l.ended l.now (take l.allocation-index l.allocations)
