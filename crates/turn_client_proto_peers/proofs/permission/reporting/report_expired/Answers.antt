use Rattle.std.proofs.Common.{◌≡◌, arith, filter, get_or, true}
use Rattle.turn_client_proto_allocation.specs.Permissions.{has_expired}
use Rattle.turn_client_proto_allocation.specs.declared.permission.Permission.{Permission}
use Rattle.turn_client_proto_allocation.proofs.Reported.{always_reported, map_some, some_pass}
use Rattle.turn_client_proto_peers.proofs.permission.reporting.report_expired.Goals as goal

pub returns-in_err-push_back-clause-reported : goal.returns-in_err-push_back-clause-reported
returns-in_err-push_back-clause-reported c =
    let passes : has_expired c.args.now (get_or c.args.permissions.now c.loop-permission.permission-index c.permission-item.result) ≡ true = Prim.cc in
    always_reported c.from_residual.result (map_some (λ (p : Permission). p.ip) (filter (has_expired c.args.now) c.args.permissions.now) (some_pass (has_expired c.args.now) c.args.permissions.now c.loop-permission.permission-index c.permission-item.result (omega arith) passes))
