use Rattle.std.proofs.Common.{take}
use Rattle.std.specs.List.{list_any}
use Rattle.turn_client_proto_peers.specs.Channel.Numbers.{AreMarked, protects}
use Rattle.turn_client_proto_peers.proofs.channel.free.mark_protected.Given as goal

-- The numbers of the channels so far are marked.
abbrev pub invariant-loop-channel : goal.invariant-loop-channel
invariant-loop-channel l =
    AreMarked (λ n. list_any (protects n l.now) (take l.channel-index l.expired)) l.fn.marks l.marks
