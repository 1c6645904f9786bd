use Rattle.std.proofs.Common.{◌≡◌, drop}
use Rattle.turn_client_proto_payload.specs.Sending.{channel_to}
use Rattle.turn_client_proto_payload.proofs.sending.channel_to.Given as goal

-- The search in what is left has the result of the whole search.
abbrev pub invariant-loop-allocation : goal.invariant-loop-allocation
invariant-loop-allocation l =
    channel_to l.transport l.peer (drop l.allocation-index l.allocations) ≡ channel_to l.fn.transport l.fn.peer l.fn.allocations
