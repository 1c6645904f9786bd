use Rattle.std.proofs.Common.{◌≡◌, ◌++◌}
use Rattle.turn_client_proto.specs.Clients.{stored_of}
use Rattle.turn_client_proto.specs.Getters.{permissions_of}
use Rattle.turn_desk_world.proofs.driven.permissions.Given as goal

-- The permissions so far and those that are left are all permissions.
abbrev pub invariant-loop-ip : goal.invariant-loop-ip
invariant-loop-ip l =
    (goal.iterator-loop-ip).can_next l.ip-iterator ×
    (goal.iterator-loop-ip).is_finite l.ip-iterator ×
    (l.list.items ++ l.ip-iterator ≡ permissions_of l.fn.transport l.fn.relayed (stored_of l.client).core)
