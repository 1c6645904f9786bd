use Rattle.std.proofs.Common.{List, [], subst}
use Rattle.std.specs.Prelude.{◌≢◌, OnErr}
use Rattle.turn_client_proto_allocation.proofs.Changes.{on_ok}
use Rattle.turn_client_proto_allocation.proofs.Reported.{always_reported}
use Rattle.turn_client_proto_core.proofs.Results.{if_err}
use Rattle.turn_client_proto_allocation.specs.declared.connection.Connecting.{Connecting}
use Rattle.turn_client_proto_allocation.specs.declared.connection.Connection.{Connection}
use Rattle.turn_client_proto_allocation.specs.declared.connection.Waiting.{Waiting}
use Rattle.turn_client_proto_connection.specs.Attempts.{peers_lost}
use Rattle.turn_client_proto_connection.specs.Expiring.{peers_gone}
use Rattle.turn_client_proto_connection.specs.Reported.{peers_over}
use Rattle.turn_client_proto_timers.proofs.Expires.{reported_gone, reported_joined, reported_lost, reported_over}
use Rattle.turn_client_proto_timers.proofs.reporting.report_connections.Goals as goal

pub returns-clause-ok : goal.returns-clause-ok
returns-clause-ok c =
    on_ok c.report_lost.result
    (reported_joined c.args.ended.now c.args.now c.args.a.now c.args.events.now c.report_over.new.events c.report_gone.new.events c.report_lost.new.events c.as_slice.result.now c.as_slice-2.result.now c.as_slice-3.result.now c.as_slice.ensures c.as_slice-2.ensures c.as_slice-3.ensures c.in_ok-report_over.ensures.ok c.in_ok-report_gone.ensures.ok)
    c.report_lost.ensures.ok

pub returns-clause-reported : goal.returns-clause-reported
returns-clause-reported c =
    if_err c.report_lost.result (λ some. reported_lost c.args.ended.now c.args.now c.args.a.now (subst (λ (l : List Waiting). peers_lost c.args.ended.now l ≢ []) c.as_slice-3.ensures some)) c.report_lost.ensures.reported

pub returns-in_err-report_over-clause-reported : goal.returns-in_err-report_over-clause-reported
returns-in_err-report_over-clause-reported c =
    let reported = subst (λ r. OnErr r (peers_over c.args.ended.now c.as_slice.result.now ≢ [])) c.in_err-report_over.was c.report_over.ensures.reported in
    always_reported c.from_residual.result (reported_over c.args.ended.now c.args.now c.args.a.now (subst (λ (l : List Connecting). peers_over c.args.ended.now l ≢ []) c.as_slice.ensures reported))

pub returns-in_err-report_gone-clause-reported : goal.returns-in_err-report_gone-clause-reported
returns-in_err-report_gone-clause-reported c =
    let reported = subst (λ r. OnErr r (peers_gone c.args.ended.now c.args.now c.as_slice-2.result.now ≢ [])) c.in_err-report_gone.was c.report_gone.ensures.reported in
    always_reported c.from_residual-in_err-report_gone.result (reported_gone c.args.ended.now c.args.now c.args.a.now (subst (λ (l : List Connection). peers_gone c.args.ended.now c.args.now l ≢ []) c.as_slice-2.ensures reported))
