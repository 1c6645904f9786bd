use Rattle.std.proofs.Common.{◌≡◌, ℕ, ◌≤◌, take}
use Rattle.turn_types_attributes.specs.TurnRegistry.{greatest_channel, least_channel}
use Rattle.turn_client_proto_peers.specs.Channel.Numbers.{is_marked, is_taken}
use Rattle.turn_client_proto_peers.proofs.channel.free.free_number.Given as goal

-- The numbers of the allocations so far are marked, and no others.
abbrev pub invariant-loop-allocation : goal.invariant-loop-allocation
invariant-loop-allocation l = (n : ℕ) → least_channel ≤ n → n ≤ greatest_channel
    → is_marked l.marks n ≡ is_taken n l.now (take l.allocation-index l.allocations)
