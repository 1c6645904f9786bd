use Rattle.std.proofs.Common.{◌≡◌, arith, filter, get_or, true}
use Rattle.turn_client_proto_allocation.specs.Permissions.{is_over}
use Rattle.turn_client_proto_allocation.proofs.Reported.{always_reported, some_pass}
use Rattle.turn_client_proto_peers.proofs.Several.{some_named}
use Rattle.turn_client_proto_peers.proofs.permission.reporting.report_over.Goals as goal

pub returns-in_err-report_one-clause-reported : goal.returns-in_err-report_one-clause-reported
returns-in_err-report_one-clause-reported c =
    let passes : is_over c.args.ended.now (get_or c.args.pending.now c.loop-permission.permission-index c.permission-item.result) ≡ true = Prim.cc in
    always_reported c.from_residual.result (some_named (filter (is_over c.args.ended.now) c.args.pending.now) (some_pass (is_over c.args.ended.now) c.args.pending.now c.loop-permission.permission-index c.permission-item.result (omega arith) passes))
