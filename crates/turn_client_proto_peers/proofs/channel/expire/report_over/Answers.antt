use Rattle.std.proofs.Common.{◌≡◌, arith, filter, get_or, true}
use Rattle.turn_client_proto_allocation.specs.Channels.{is_over}
use Rattle.turn_client_proto_allocation.specs.declared.channel.PendingChannel.{PendingChannel}
use Rattle.turn_client_proto_allocation.proofs.Reported.{always_reported, map_some, some_pass}
use Rattle.turn_client_proto_peers.proofs.channel.expire.report_over.Goals as goal

pub returns-in_err-push_back-clause-reported : goal.returns-in_err-push_back-clause-reported
returns-in_err-push_back-clause-reported c =
    let passes : is_over c.args.ended.now (get_or c.args.pending.now c.loop-channel.channel-index c.channel-item.result) ≡ true = Prim.cc in
    always_reported c.from_residual.result (map_some (λ (c : PendingChannel). c.peer) (filter (is_over c.args.ended.now) c.args.pending.now) (some_pass (is_over c.args.ended.now) c.args.pending.now c.loop-channel.channel-index c.channel-item.result (omega arith) passes))
