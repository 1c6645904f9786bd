use Rattle.std.proofs.Common.{◌≡◌, ◌∷◌, ◌++◌, map, take}
use Rattle.turn_client_proto_allocation.specs.Permissions.{each_once}
use Rattle.turn_client_proto_api.specs.declared.event.TurnEvent.TheVariants.{PermissionCreateFailed}
use Rattle.turn_client_proto_peers.proofs.permission.reporting.report_one.Given as goal

-- The events of the addresses so far are queued.
abbrev pub invariant-loop-index : goal.invariant-loop-index
invariant-loop-index l =
    l.events ≡ l.fn.events ++ map (PermissionCreateFailed l.transport) (each_once (l.ip ∷ take l.index l.others))
