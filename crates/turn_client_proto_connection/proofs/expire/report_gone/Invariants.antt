use Rattle.std.proofs.Common.{◌≡◌, ◌++◌, map, take}
use Rattle.turn_client_proto_api.specs.declared.event.TurnEvent.TheVariants.{TcpConnectFailed}
use Rattle.turn_client_proto_connection.specs.Expiring.{peers_gone}
use Rattle.turn_client_proto_connection.proofs.expire.report_gone.Given as goal

-- The events of the elements so far are queued.
abbrev pub invariant-loop-connection : goal.invariant-loop-connection
invariant-loop-connection l = l.events ≡ l.fn.events ++ map TcpConnectFailed (peers_gone l.ended l.now (take l.connection-index l.connections))
