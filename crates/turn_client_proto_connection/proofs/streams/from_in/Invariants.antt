use Rattle.std.proofs.Common.{◌≡◌, drop}
use Rattle.std.specs.Prelude.{find}
use Rattle.turn_client_proto_connection.specs.Sockets.{is_from}
use Rattle.turn_client_proto_connection.specs.Streams.{from_in}
use Rattle.turn_client_proto_connection.proofs.streams.from_in.Given as goal

-- The search among the remaining connections has the same result.
abbrev pub invariant-loop-connection : goal.invariant-loop-connection
invariant-loop-connection l =
    find (is_from l.here) (drop l.connection-index l.connection-items) ≡ from_in l.fn.here l.fn.a
