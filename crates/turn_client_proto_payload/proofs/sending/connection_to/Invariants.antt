use Rattle.std.proofs.Common.{◌≡◌, drop}
use Rattle.turn_client_proto_payload.specs.Sending.{connection_to}
use Rattle.turn_client_proto_payload.proofs.sending.connection_to.Given as goal

-- The search in what is left has the result of the whole search.
abbrev pub invariant-loop-allocation : goal.invariant-loop-allocation
invariant-loop-allocation l =
    connection_to l.transport l.peer (drop l.allocation-index l.allocations) ≡ connection_to l.fn.transport l.fn.peer l.fn.allocations
