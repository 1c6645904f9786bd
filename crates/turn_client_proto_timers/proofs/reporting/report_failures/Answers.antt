use Rattle.std.proofs.Common.{[], arith, subst}
use Rattle.std.specs.Prelude.{◌≢◌, OnErr}
use Rattle.turn_client_proto_allocation.proofs.Reported.{always_reported, some_reported}
use Rattle.turn_client_proto_allocation.specs.declared.allocation.Allocation.{Allocation}
use Rattle.turn_client_proto_timers.specs.Reporting.{failures}
use Rattle.turn_client_proto_timers.proofs.reporting.report_failures.Goals as goal

pub returns-in_err-report_of-clause-reported : goal.returns-in_err-report_of-clause-reported
returns-in_err-report_of-clause-reported c =
    let reported = subst (λ r. OnErr r (failures c.args.ended.now c.args.now c.allocation-item.result ≢ [])) c.in_err-report_of.was c.report_of.ensures.reported in
    let there = subst (λ (a : Allocation). failures c.args.ended.now c.args.now a ≢ []) c.allocation-item.is reported in
    always_reported c.from_residual.result (some_reported (failures c.args.ended.now c.args.now) c.args.allocations.now c.loop-allocation.allocation-index c.allocation-item.result (omega arith) there)
