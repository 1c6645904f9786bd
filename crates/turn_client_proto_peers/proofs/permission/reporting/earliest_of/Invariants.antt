use Rattle.std.proofs.Common.{◌≡◌, take}
use Rattle.turn_client_proto_peers.specs.Permission.Reporting.{earlier_of}
use Rattle.turn_client_proto_peers.proofs.permission.reporting.earliest_of.Given as goal

-- The earliest time of the elements so far.
abbrev pub invariant-loop-permission : goal.invariant-loop-permission
invariant-loop-permission l = l.next ≡ earlier_of l.ended l.ready l.now l.fn.wait (take l.permission-index l.permissions)
