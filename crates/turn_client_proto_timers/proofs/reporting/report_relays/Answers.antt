use Rattle.std.proofs.Common.{List, [], ◌∷◌, map, Option, subst, ap, sym, ◌∙◌}
use Rattle.std.proofs.lemmas.List.{append-nil}
use Rattle.std.specs.Prelude.{◌≢◌, OnErr, option_to_list}
use Rattle.std.specs.declared.net.socket_addr.SocketAddr.{SocketAddr}
use Rattle.turn_client_proto_allocation.proofs.Reported.{always_reported}
use Rattle.turn_client_proto_allocation.specs.declared.channel.PendingChannel.{PendingChannel}
use Rattle.turn_client_proto_allocation.specs.declared.permission.PendingPermission.{PendingPermission}
use Rattle.turn_client_proto_allocation.specs.declared.permission.Permission.{Permission}
use Rattle.turn_client_proto_api.specs.declared.event.TurnEvent.TheVariants.{ChannelCreateFailed}
use Rattle.turn_client_proto_peers.specs.Channel.Expiring.{peer_expiring, peers_over}
use Rattle.turn_client_proto_peers.specs.Permission.Reporting.{addresses_expired, addresses_over}
use Rattle.turn_client_proto_timers.proofs.Expires.{reported_all, decoded_first, reported_second, reported_third, reported_last}
use Rattle.turn_client_proto_timers.proofs.reporting.report_relays.Goals as goal

pub returns-in_ok-push_back-clause-ok : goal.returns-in_ok-push_back-clause-ok
returns-in_ok-push_back-clause-ok c =
    let a = c.args.a.now in
    let peer = sym (c.peer_expiring.ensures ∙ ap (peer_expiring c.args.now) c.as_slice-4.ensures) ∙ c.in-Some.is in
    reported_all c.args.ended.now c.args.now a c.args.events.now c.report_over.new.events c.report_over-2.new.events c.report_expired.new.events c.push_back.new.self (ChannelCreateFailed a.transport c.in-Some.peer ∷ [])
    c.as_slice.result.now c.as_slice-2.result.now c.as_slice-3.result.now c.as_slice.ensures c.as_slice-2.ensures c.as_slice-3.ensures
    (sym (ap (λ (o : Option SocketAddr). map (ChannelCreateFailed a.transport) (option_to_list o)) peer))
    c.in_ok-report_over.ensures.ok c.in_ok-report_over-2.ensures.ok c.in_ok-report_expired.ensures.ok c.in_ok-push_back.ensures.ok

pub returns-in_default-clause-ok : goal.returns-in_default-clause-ok
returns-in_default-clause-ok c =
    let a = c.args.a.now in
    let peer = sym (c.peer_expiring.ensures ∙ ap (peer_expiring c.args.now) c.as_slice-4.ensures) ∙ c.in_default.is in
    reported_all c.args.ended.now c.args.now a c.args.events.now c.report_over.new.events c.report_over-2.new.events c.report_expired.new.events c.report_expired.new.events []
    c.as_slice.result.now c.as_slice-2.result.now c.as_slice-3.result.now c.as_slice.ensures c.as_slice-2.ensures c.as_slice-3.ensures
    (sym (ap (λ (o : Option SocketAddr). map (ChannelCreateFailed a.transport) (option_to_list o)) peer))
    c.in_ok-report_over.ensures.ok c.in_ok-report_over-2.ensures.ok c.in_ok-report_expired.ensures.ok (sym (append-nil c.report_expired.new.events))

pub returns-in_err-report_over-clause-reported : goal.returns-in_err-report_over-clause-reported
returns-in_err-report_over-clause-reported c =
    let reported = subst (λ r. OnErr r (addresses_over c.args.ended.now c.as_slice.result.now ≢ [])) c.in_err-report_over.was c.report_over.ensures.reported in
    always_reported c.from_residual.result (decoded_first c.args.ended.now c.args.now c.args.a.now (subst (λ (l : List PendingPermission). addresses_over c.args.ended.now l ≢ []) c.as_slice.ensures reported))

pub returns-in_err-report_over-2-clause-reported : goal.returns-in_err-report_over-2-clause-reported
returns-in_err-report_over-2-clause-reported c =
    let reported = subst (λ r. OnErr r (peers_over c.args.ended.now c.as_slice-2.result.now ≢ [])) c.in_err-report_over-2.was c.report_over-2.ensures.reported in
    always_reported c.from_residual-in_err-report_over-2.result (reported_second c.args.ended.now c.args.now c.args.a.now (subst (λ (l : List PendingChannel). peers_over c.args.ended.now l ≢ []) c.as_slice-2.ensures reported))

pub returns-in_err-report_expired-clause-reported : goal.returns-in_err-report_expired-clause-reported
returns-in_err-report_expired-clause-reported c =
    let reported = subst (λ r. OnErr r (addresses_expired c.args.now c.as_slice-3.result.now ≢ [])) c.in_err-report_expired.was c.report_expired.ensures.reported in
    always_reported c.from_residual-in_err-report_expired.result (reported_third c.args.ended.now c.args.now c.args.a.now (subst (λ (l : List Permission). addresses_expired c.args.now l ≢ []) c.as_slice-3.ensures reported))

pub returns-in_err-push_back-clause-reported : goal.returns-in_err-push_back-clause-reported
returns-in_err-push_back-clause-reported c =
    let peer = sym (c.peer_expiring.ensures ∙ ap (peer_expiring c.args.now) c.as_slice-4.ensures) ∙ c.in-Some.is in
    always_reported c.from_residual-in_err-push_back.result (reported_last c.args.ended.now c.args.now c.args.a.now c.in-Some.peer peer)
