use Rattle.std.proofs.Common.{ap, get_or, sym, ◌∙◌}
use Rattle.turn_client_proto_allocation.proofs.Changes.{on_ok, put_there}
use Rattle.turn_client_proto_allocation.proofs.Lent.{first_back}
use Rattle.turn_client_proto_allocation.specs.declared.allocation.Allocation.{Allocation}
use Rattle.turn_client_proto_allocation.specs.Channels.{awaiting, wants_renewal}
use Rattle.turn_client_proto_peers.specs.Channel.Wanting.{renewing}
use Rattle.turn_client_proto_timers.specs.Wanting.{wants}
use Rattle.turn_client_proto_timers.proofs.wanting.renew_channel_first.Goals as goal

pub returns-clause-ok : goal.returns-clause-ok
returns-clause-ok c =
    let x : Allocation = get_or c.args.allocations.now c.in-Some.index c.index-allocations-index.result in
    let is_there = ap (λ y. get_or c.args.allocations.now c.in-Some.index y) c.index-allocations-index.is in
    on_ok c.renew_first.result (λ is. put_there (wants c.args.now) (renewing c.args.now c.args.transaction_id) c.args.allocations.now c.in-Some.index x _ (sym c.index_wanting.ensures ∙ c.in-Some.is) is_there
    (ap (λ l. record x { channels = l }) (first_back (wants_renewal c.args.now) (awaiting c.args.transaction_id) x.channels c.as_mut_slice.result.now c.renew_first.new.channels c.as_mut_slice.ensures.value is))) c.renew_first.ensures.ok
