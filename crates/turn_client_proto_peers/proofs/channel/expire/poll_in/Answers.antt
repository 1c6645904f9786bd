use Rattle.std.proofs.Common.{◌≡◌, ap, rules}
use Rattle.std.proofs.lemmas.Fn.{filter_same}
use Rattle.turn_client_proto_allocation.proofs.Lent.{each_back}
use Rattle.turn_client_proto_allocation.specs.Channels.{not_forgotten, not_over, polled_channel}
use Rattle.turn_client_proto_peers.specs.Channel.Expiring.{left, polled}
use Rattle.turn_client_proto_peers.proofs.channel.expire.poll_in.Goals as goal

pub returns-clause-ok : goal.returns-clause-ok
unfolding polled
returns-clause-ok c =
    let a = c.expire.new.a in
    let channels = each_back (polled_channel c.args.ended.now) a.channels c.as_mut_slice.result.now c.poll_each.new.channels c.as_mut_slice.ensures.value c.poll_each.ensures in
    let pending : c.retain.new.self ≡ not_over c.args.ended.now a.pending_channels = filter_same _ _ _ (λ x b f' k. search rules) _ _ c.retain.ensures in
    let expired : c.retain-2.new.self ≡ not_forgotten c.args.now a.expired_channels = filter_same _ _ _ (λ x b f' k. search rules) _ _ c.retain-2.ensures in
    rw (channels, pending, expired) (ap (left c.args.ended.now c.args.now) c.in_ok-expire.ensures.ok)
