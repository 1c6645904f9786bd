use Rattle.std.proofs.Common.{[], map, ap, subst, ◌∙◌}
use Rattle.std.specs.Prelude.{◌≢◌, OnErr}
use Rattle.turn_client_proto_allocation.proofs.Reported.{always_reported}
use Rattle.turn_client_proto_peers.specs.Channel.Expiring as channels
use Rattle.turn_client_proto_connection.specs.Expiring as joined
use Rattle.turn_client_proto_peers.specs.Permission.Reporting as permissions
use Rattle.turn_client_proto_timers.proofs.Expires.{expiring_reported}
use Rattle.turn_client_proto_timers.proofs.Reports.{each_changed}
use Rattle.turn_client_proto_timers.proofs.reporting.poll.Goals as goal

pub returns-clause-ok : goal.returns-clause-ok
returns-clause-ok c =
    let ended = c.args.ended.now in
    let now = c.args.now in
    let relays = c.in_ok-poll.ensures.ok ∙ ap (map (channels.polled ended now)) c.poll.ensures ∙ each_changed (channels.polled ended now) (permissions.polled ended now) c.args.allocations.now in
    c.poll-3.ensures ∙ ap (map (joined.polled ended now)) relays ∙ each_changed (joined.polled ended now) (λ a. channels.polled ended now (permissions.polled ended now a)) c.args.allocations.now

pub returns-in_err-poll-clause-reported : goal.returns-in_err-poll-clause-reported
returns-in_err-poll-clause-reported c =
    let reported = subst (λ r. OnErr r (channels.all_expiring c.args.now c.poll.new.allocations ≢ [])) c.in_err-poll.was c.poll-2.ensures.reported in
    always_reported c.from_residual.result (expiring_reported c.args.ended.now c.args.now c.args.allocations.now c.poll.new.allocations c.poll.ensures reported)
