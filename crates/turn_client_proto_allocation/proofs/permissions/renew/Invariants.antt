use Rattle.std.proofs.Common.{◌≡◌, ◌++◌, map, take, drop}
use Rattle.turn_client_proto_allocation.specs.Permissions.{renewed_permission}
use Rattle.turn_client_proto_allocation.proofs.permissions.renew.Given as goal

-- The elements so far are changed, and the others are as they were.
abbrev pub invariant-loop-permission : goal.invariant-loop-permission
invariant-loop-permission l = l.permissions ≡ map (renewed_permission l.transaction_id l.expiry) (take l.permission-index l.fn.permissions) ++ drop l.permission-index l.fn.permissions
