use Rattle.std.proofs.Common.{◌≡◌, ◌++◌, map, take}
use Rattle.turn_client_proto_api.specs.declared.event.TurnEvent.TheVariants.{PermissionCreateFailed}
use Rattle.turn_client_proto_peers.specs.Permission.Reporting.{addresses_over}
use Rattle.turn_client_proto_peers.proofs.permission.reporting.report_over.Given as goal

-- The events of the elements so far are queued.
abbrev pub invariant-loop-permission : goal.invariant-loop-permission
invariant-loop-permission l =
    l.events ≡ l.fn.events ++ map (PermissionCreateFailed l.transport) (addresses_over l.ended (take l.permission-index l.pending))
