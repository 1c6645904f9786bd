use Rattle.std.proofs.Common.{◌≡◌, take}
use Rattle.turn_client_proto_peers.proofs.EarliestPermission.{earliest}
use Rattle.turn_client_proto_peers.proofs.permission.reporting.earliest.Given as goal

-- The earliest time of the elements so far.
abbrev pub invariant-loop-allocation : goal.invariant-loop-allocation
invariant-loop-allocation l = l.next ≡ earliest l.ended l.ready l.now l.fn.wait (take l.allocation-index l.allocations)
