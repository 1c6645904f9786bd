use Rattle.std.proofs.Common.{◌≡◌, ◌++◌}
use Rattle.turn_client_proto.specs.Clients.{stored_of}
use Rattle.turn_client_proto.specs.Getters.{channels_of}
use Rattle.turn_desk_world.proofs.driven.channels.Given as goal

-- The channels so far and those that are left are all channels.
abbrev pub invariant-loop-channel : goal.invariant-loop-channel
invariant-loop-channel l =
    (goal.iterator-loop-channel).can_next l.channel-iterator ×
    (goal.iterator-loop-channel).is_finite l.channel-iterator ×
    (l.list.items ++ l.channel-iterator ≡ channels_of (stored_of l.client).core)
