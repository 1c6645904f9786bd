use Rattle.std.proofs.Common.{◌≡◌, drop}
use Rattle.std.specs.Prelude.{find}
use Rattle.turn_client_proto_payload.specs.Sending.{connection_in, is_bound_to}
use Rattle.turn_client_proto_payload.proofs.sending.connection_in.Given as goal

-- The search in what is left has the result of the whole search.
abbrev pub invariant-loop-connection : goal.invariant-loop-connection
invariant-loop-connection l =
    find (is_bound_to l.peer) (drop l.connection-index l.connection-items) ≡ connection_in l.fn.transport l.fn.peer l.fn.a
