use Rattle.std.proofs.Common.{◌≡◌, drop}
use Rattle.turn_client_proto_payload.specs.Payloads.{permitted}
use Rattle.turn_client_proto_payload.proofs.known.permitted.Given as goal

-- The search in what is left has the result of the whole search.
abbrev pub invariant-loop-allocation : goal.invariant-loop-allocation
invariant-loop-allocation l =
    permitted l.ip (drop l.allocation-index l.allocations) ≡ permitted l.fn.ip l.fn.allocations
