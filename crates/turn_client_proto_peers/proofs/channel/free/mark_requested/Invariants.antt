use Rattle.std.proofs.Common.{take}
use Rattle.std.specs.List.{list_any}
use Rattle.turn_client_proto_peers.specs.Channel.Numbers.{AreMarked, is_requested_as}
use Rattle.turn_client_proto_peers.proofs.channel.free.mark_requested.Given as goal

-- The numbers of the channels so far are marked.
abbrev pub invariant-loop-channel : goal.invariant-loop-channel
invariant-loop-channel l = AreMarked (λ n. list_any (is_requested_as n) (take l.channel-index l.pending)) l.fn.marks l.marks
