use Rattle.std.proofs.Common.{◌≡◌, ◌++◌, take}
use Rattle.turn_client_proto_timers.specs.Reporting.{all_failures}
use Rattle.turn_client_proto_timers.proofs.reporting.report_failures.Given as goal

-- The events of the allocations so far are queued.
abbrev pub invariant-loop-allocation : goal.invariant-loop-allocation
invariant-loop-allocation l = l.events ≡ l.fn.events ++ all_failures l.ended l.now (take l.allocation-index l.allocations)
