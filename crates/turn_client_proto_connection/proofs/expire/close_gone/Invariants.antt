use Rattle.std.proofs.Common.{◌≡◌, ◌++◌, take}
use Rattle.turn_client_proto_connection.specs.Expiring.{sockets_gone}
use Rattle.turn_client_proto_connection.proofs.expire.close_gone.Given as goal

-- The sockets of the connections so far are to be closed.
abbrev pub invariant-loop-connection : goal.invariant-loop-connection
invariant-loop-connection l = l.closing ≡ l.fn.closing ++ sockets_gone l.ended l.now (take l.connection-index l.connections)
