use Rattle.std.proofs.Common.{sym, ap, ◌∙◌}
use Rattle.turn_client_proto_allocation.proofs.Changes.{found_at}
use Rattle.turn_client_proto_allocation.specs.declared.allocation.Allocation.{Allocation}
use Rattle.turn_client_proto_peers.specs.Permission.Visible.{is_at, permissions_in}
use Rattle.turn_client_proto_peers.proofs.permission.visible.permissions_at.Goals as goal

pub returns-in-Some : goal.returns-in-Some
returns-in-Some c =
    let found = found_at (is_at c.args.transport c.args.relayed) c.args.allocations.now c.in-Some.index c.index-allocations-index.result (sym c.index_at.ensures ∙ c.in-Some.is) c.index-allocations-index.is in
    c.as_slice.ensures ∙ ap (λ (a : Allocation). a.permissions) (sym c.index-allocations-index.is) ∙ ap permissions_in (sym found)
