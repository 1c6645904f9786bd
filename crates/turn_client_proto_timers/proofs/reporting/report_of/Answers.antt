use Rattle.std.proofs.Common.{[], subst}
use Rattle.std.specs.Prelude.{◌≢◌, OnErr}
use Rattle.turn_client_proto_allocation.proofs.Changes.{on_ok}
use Rattle.turn_client_proto_allocation.proofs.Reported.{always_reported}
use Rattle.turn_client_proto_core.proofs.Results.{if_err}
use Rattle.turn_client_proto_timers.specs.Reporting.{relay_failures}
use Rattle.turn_client_proto_timers.proofs.Expires.{reported_both, reported_connections, reported_relays}
use Rattle.turn_client_proto_timers.proofs.reporting.report_of.Goals as goal

pub returns-clause-ok : goal.returns-clause-ok
returns-clause-ok c =
    on_ok c.report_connections.result (reported_both c.args.ended.now c.args.now c.args.a.now c.args.events.now c.report_relays.new.events c.report_connections.new.events c.in_ok-report_relays.ensures.ok) c.report_connections.ensures.ok

pub returns-clause-reported : goal.returns-clause-reported
returns-clause-reported c = if_err c.report_connections.result (reported_connections c.args.ended.now c.args.now c.args.a.now) c.report_connections.ensures.reported

pub returns-in_err-report_relays-clause-reported : goal.returns-in_err-report_relays-clause-reported
returns-in_err-report_relays-clause-reported c =
    let reported = subst (λ r. OnErr r (relay_failures c.args.ended.now c.args.now c.args.a.now ≢ [])) c.in_err-report_relays.was c.report_relays.ensures.reported in
    always_reported c.from_residual.result (reported_relays c.args.ended.now c.args.now c.args.a.now reported)
