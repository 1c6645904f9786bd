use Rattle.std.proofs.Common.{◌≡◌, ◌++◌, map, take}
use Rattle.turn_client_proto_api.specs.declared.event.TurnEvent.TheVariants.{TcpConnectFailed}
use Rattle.turn_client_proto_connection.specs.Reported.{peers_over}
use Rattle.turn_client_proto_connection.proofs.reported.report_over.Given as goal

-- The events of the elements so far are queued.
abbrev pub invariant-loop-requested : goal.invariant-loop-requested
invariant-loop-requested l = l.events ≡ l.fn.events ++ map TcpConnectFailed (peers_over l.ended (take l.requested-index l.connecting))
