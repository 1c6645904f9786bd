use Rattle.std.proofs.Common.{◌≡◌, drop}
use Rattle.turn_client_proto_payload.specs.Payloads.{bound}
use Rattle.turn_client_proto_payload.proofs.known.bound.Given as goal

-- The search in what is left has the result of the whole search.
abbrev pub invariant-loop-allocation : goal.invariant-loop-allocation
invariant-loop-allocation l =
    bound l.number (drop l.allocation-index l.allocations) ≡ bound l.fn.number l.fn.allocations
