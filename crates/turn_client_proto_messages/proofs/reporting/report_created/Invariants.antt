use Rattle.std.proofs.Common.{◌≡◌, ◌++◌, map, take}
use Rattle.turn_client_proto_messages.specs.Reporting.{created}
use Rattle.turn_client_proto_messages.proofs.reporting.report_created.Given as goal

-- The events of the elements so far are queued.
abbrev pub invariant-loop-allocation : goal.invariant-loop-allocation
invariant-loop-allocation l = l.events ≡ l.fn.events ++ map created (take l.allocation-index l.allocations)
