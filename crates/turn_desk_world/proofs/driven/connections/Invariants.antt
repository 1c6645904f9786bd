use Rattle.std.proofs.Common.{◌≡◌, ◌++◌}
use Rattle.turn_client_proto.specs.Clients.{stored_of}
use Rattle.turn_client_proto.specs.Getters.{connections_of}
use Rattle.turn_desk_world.proofs.driven.connections.Given as goal

-- The connections so far and those that are left are all connections.
abbrev pub invariant-loop-connection : goal.invariant-loop-connection
invariant-loop-connection l =
    (goal.iterator-loop-connection).can_next l.connection-iterator ×
    (goal.iterator-loop-connection).is_finite l.connection-iterator ×
    (l.list.items ++ l.connection-iterator ≡ connections_of (stored_of l.client).core)
