use Rattle.std.proofs.Common.{◌≡◌, ◌++◌, map, take, drop}
use Rattle.turn_client_proto_allocation.specs.Permissions.{polled_permission}
use Rattle.turn_client_proto_allocation.proofs.permissions.poll.Given as goal

-- The elements so far are changed, and the others are as they were.
abbrev pub invariant-loop-permission : goal.invariant-loop-permission
invariant-loop-permission l = l.permissions ≡ map (polled_permission l.ended) (take l.permission-index l.fn.permissions) ++ drop l.permission-index l.fn.permissions
