use Rattle.std.proofs.Common.{◌≡◌, ◌++◌, map, take}
use Rattle.turn_client_proto_api.specs.declared.event.TurnEvent.TheVariants.{AllocationCreateFailed}
use Rattle.turn_client_proto_messages.specs.Granting.{families_without}
use Rattle.turn_client_proto_messages.proofs.reporting.report_without.Given as goal

-- The events of the elements so far are queued.
abbrev pub invariant-loop-family : goal.invariant-loop-family
invariant-loop-family l =
    l.events ≡ l.fn.events ++ map AllocationCreateFailed (families_without (take l.family-index l.families) l.allocations)
