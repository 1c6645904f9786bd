use Rattle.std.proofs.Common.{ap, get_or, sym, ◌∙◌}
use Rattle.turn_client_proto_allocation.proofs.Changes.{on_ok, put_there}
use Rattle.turn_client_proto_allocation.specs.declared.channel.Channel.{Channel}
use Rattle.turn_client_proto_allocation.specs.Awaited.{renews_channel}
use Rattle.turn_client_proto_allocation.specs.Channels.{awaiting}
use Rattle.turn_client_proto_allocation.proofs.pending.renew_again.Goals as goal

pub returns : goal.returns
returns c =
    let x : Channel = get_or c.args.channels.now c.in-Some.index c.index-channels-index.result in
    let is_there = ap (λ y. get_or c.args.channels.now c.in-Some.index y) c.index-channels-index.is in
    on_ok c.push.result (λ is. put_there (renews_channel c.args.old) (awaiting c.args.transaction_id) c.args.channels.now c.in-Some.index x (record x { renewals = c.push.new.self }) (sym c.index_renewed.ensures ∙ c.in-Some.is) is_there (ap (λ l. record x { renewals = l }) is)) c.push.ensures.ok
