use Rattle.std.proofs.Common.{◌≡◌, ◌++◌, map, take}
use Rattle.turn_client_proto_api.specs.declared.event.TurnEvent.TheVariants.{PermissionCreated}
use Rattle.turn_client_proto_core.proofs.reporting.report_created.Given as goal

-- The events of the addresses so far are queued.
abbrev pub invariant-loop-ip : goal.invariant-loop-ip
invariant-loop-ip l = l.events ≡ l.fn.events ++ map (PermissionCreated l.transport) (take l.ip-index l.ips)
