use Rattle.std.proofs.Common.{◌≡◌, ◌++◌}
use Rattle.turn_client_proto.specs.Clients.{stored_of}
use Rattle.turn_client_proto.specs.Getters.{relayed_of}
use Rattle.turn_desk_world.proofs.driven.relayed.Given as goal

-- The addresses so far and those that are left are all addresses.
abbrev pub invariant-loop-relayed : goal.invariant-loop-relayed
invariant-loop-relayed l =
    (goal.iterator-loop-relayed).can_next l.relayed-iterator ×
    (goal.iterator-loop-relayed).is_finite l.relayed-iterator ×
    (l.list.items ++ l.relayed-iterator ≡ relayed_of (stored_of l.client).core)
