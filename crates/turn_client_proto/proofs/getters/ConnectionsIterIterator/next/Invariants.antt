use Rattle.std.proofs.Common.{◌≡◌, ◌++◌, length}
use Rattle.turn_client_proto_connection.specs.Visible.{connections_listed, rows_of}
use Rattle.turn_client_proto.proofs.getters.ConnectionsIterIterator.next.Given as goal

-- The elements that the iterator has yet to visit are those that it has yet to return.
abbrev pub invariant-loop-here : goal.invariant-loop-here
invariant-loop-here l = rows_of l.here ++ connections_listed l.left ≡ l.fn.self

abbrev pub decreases-loop-here : goal.decreases-loop-here
decreases-loop-here l = length l.left
