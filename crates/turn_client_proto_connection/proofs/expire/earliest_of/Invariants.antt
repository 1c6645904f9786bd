use Rattle.std.proofs.Common.{◌≡◌, take}
use Rattle.turn_client_proto_connection.specs.Expiring.{earlier_of}
use Rattle.turn_client_proto_connection.proofs.expire.earliest_of.Given as goal

-- The earliest time of the elements so far.
abbrev pub invariant-loop-connection : goal.invariant-loop-connection
invariant-loop-connection l = l.next ≡ earlier_of l.fn.wait (take l.connection-index l.connections)
