use Rattle.std.proofs.Common.{ap, get_or, sym, ◌∙◌}
use Rattle.turn_client_proto_allocation.proofs.Changes.{on_ok, put_there}
use Rattle.turn_client_proto_allocation.specs.Refreshing.{refreshing}
use Rattle.turn_client_proto_allocation.specs.declared.allocation.Allocation.{Allocation}
use Rattle.turn_client_proto_timers.specs.Wanting.{wants}
use Rattle.turn_client_proto_timers.proofs.wanting.refresh_first.Goals as goal

pub returns-clause-ok : goal.returns-clause-ok
returns-clause-ok c =
    let x : Allocation = get_or c.args.allocations.now c.in-Some.index c.index-allocations-index.result in
    let is_there = ap (λ y. get_or c.args.allocations.now c.in-Some.index y) c.index-allocations-index.is in
    on_ok c.await_refresh.result (λ is. put_there (wants c.args.now) (refreshing c.args.refresh.now) c.args.allocations.now c.in-Some.index x c.await_refresh.new.self (sym c.index_wanting.ensures ∙ c.in-Some.is) is_there is) c.await_refresh.ensures.ok
