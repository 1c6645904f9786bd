use Rattle.std.proofs.Common.{◌≡◌, ℕ, ◌<◌, ◌≤◌, true}
use Rattle.turn_types_attributes.specs.TurnRegistry.{least_channel}
use Rattle.turn_client_proto_peers.specs.Channel.Numbers.{is_marked}
use Rattle.turn_client_proto_peers.proofs.channel.free.least_unmarked.Given as goal

-- The numbers so far are marked.
abbrev pub invariant-loop-number : goal.invariant-loop-number
invariant-loop-number l = (n : ℕ) → least_channel ≤ n → n < l.number → is_marked l.marks n ≡ true
