use Rattle.std.proofs.Common.{ap, get_or}
use Rattle.turn_client_proto_allocation.proofs.Changes.{on_ok, put_there}
use Rattle.turn_client_proto_allocation.specs.declared.allocation.Allocation.{Allocation}
use Rattle.turn_client_proto_allocation.specs.PendingRequests.{awaits_reply}
use Rattle.turn_client_proto_peers.specs.Permission.Granted.{permitted_all}
use Rattle.turn_client_proto_peers.proofs.permission.permit.permit_each.Goals as goal

pub returns-clause-ok : goal.returns-clause-ok
returns-clause-ok c =
    let x : Allocation = get_or c.args.allocations.now c.args.index c.index-allocations-index.result in
    let is_there = ap (λ y. get_or c.args.allocations.now c.args.index y) c.index-allocations-index.is in
    on_ok c.permit_each.result (λ is. put_there (awaits_reply c.args.transaction_id) (permitted_all c.args.ips.now c.args.transaction_id c.args.now) c.args.allocations.now c.args.index x c.permit_each.new.a c.requires is_there is) c.permit_each.ensures.ok
