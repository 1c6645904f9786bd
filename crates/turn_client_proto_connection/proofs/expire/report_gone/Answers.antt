use Rattle.std.proofs.Common.{◌≡◌, arith, filter, get_or, true}
use Rattle.turn_client_proto_allocation.specs.declared.connection.Connection.{Connection}
use Rattle.turn_client_proto_allocation.proofs.Reported.{always_reported, map_some, some_pass}
use Rattle.turn_client_proto_connection.specs.Expiring.{has_gone}
use Rattle.turn_client_proto_connection.proofs.expire.report_gone.Goals as goal

pub returns-in_err-push_back-clause-reported : goal.returns-in_err-push_back-clause-reported
returns-in_err-push_back-clause-reported c =
    let passes : has_gone c.args.ended.now c.args.now (get_or c.args.connections.now c.loop-connection.connection-index c.connection-item.result) ≡ true = Prim.cc in
    always_reported c.from_residual.result (map_some (λ (c : Connection). c.peer) (filter (has_gone c.args.ended.now c.args.now) c.args.connections.now) (some_pass (has_gone c.args.ended.now c.args.now) c.args.connections.now c.loop-connection.connection-index c.connection-item.result (omega arith) passes))
