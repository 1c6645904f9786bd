use Rattle.std.proofs.Common.{ap, get_or, sym, ◌∙◌}
use Rattle.turn_client_proto_allocation.proofs.Changes.{on_ok, put_there}
use Rattle.turn_client_proto_allocation.specs.declared.channel.Channel.{Channel}
use Rattle.turn_client_proto_allocation.specs.Channels.{awaiting, wants_renewal}
use Rattle.turn_client_proto_peers.proofs.channel.wanting.renew_first.Goals as goal

pub returns-clause-ok : goal.returns-clause-ok
returns-clause-ok c =
    let x : Channel = get_or c.args.channels.now c.in-Some.index c.index-channels-index.result in
    let is_there = ap (λ y. get_or c.args.channels.now c.in-Some.index y) c.index-channels-index.is in
    on_ok c.push.result (λ is. put_there (wants_renewal c.args.now) (awaiting c.args.transaction_id) c.args.channels.now c.in-Some.index x (record x { renewals = c.push.new.self }) (sym c.index_wanting.ensures ∙ c.in-Some.is) is_there (ap (λ l. record x { renewals = l }) is)) c.push.ensures.ok
