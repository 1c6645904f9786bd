use Rattle.std.proofs.Common.{take}
use Rattle.std.specs.List.{list_any}
use Rattle.turn_client_proto_peers.specs.Channel.Numbers.{AreMarked, is_numbered}
use Rattle.turn_client_proto_peers.proofs.channel.free.mark_standing.Given as goal

-- The numbers of the channels so far are marked.
abbrev pub invariant-loop-channel : goal.invariant-loop-channel
invariant-loop-channel l = AreMarked (λ n. list_any (is_numbered n) (take l.channel-index l.channels)) l.fn.marks l.marks
