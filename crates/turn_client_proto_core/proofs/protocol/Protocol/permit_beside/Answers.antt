use Rattle.std.proofs.Common.{◌∙◌}
use Rattle.turn_client_proto_allocation.proofs.Changes.{on_ok}
use Rattle.turn_client_proto_allocation.proofs.Lent.{first_back}
use Rattle.turn_client_proto_allocation.specs.PendingRequests.{awaits_reply}
use Rattle.turn_client_proto_peers.specs.Permission.Granted.{permitted}
use Rattle.turn_client_proto_core.specs.Binding.{permission_with}
use Rattle.turn_client_proto_core.proofs.Bound.{beside_is, none_permitted, one_permitted}
use Rattle.turn_client_proto_core.proofs.protocol.Protocol.permit_beside.Goals as goal

pub returns-in_default-clause-ok : goal.returns-in_default-clause-ok
returns-in_default-clause-ok c =
    let old = c.args.self.now in
    let beside = beside_is old.allocations c.as_slice.result.now c.args.transaction_id c.args.index c.index-as_slice-index.result c.permission_requested.result c.requires c.as_slice.ensures c.index-as_slice-index.is c.permission_requested.ensures in
    none_permitted old c.args.transport c.args.transaction_id c.args.now (permission_with c.args.transaction_id old.allocations) (beside ∙ c.in_default.is)

pub returns-clause-ok : goal.returns-clause-ok
returns-clause-ok c =
    let old = c.args.self.now in
    let lent = c.as_mut_slice-allocations.result.now in
    let beside = beside_is old.allocations c.as_slice.result.now c.args.transaction_id c.args.index c.index-as_slice-index.result c.permission_requested.result c.requires c.as_slice.ensures c.index-as_slice-index.is c.permission_requested.ensures in
    on_ok c.permit.result (λ is. one_permitted old c.args.transport c.args.transaction_id c.args.now (permission_with c.args.transaction_id old.allocations) c.in-Some.ip _ c.push_back.new.self (beside ∙ c.in-Some.is)
    (first_back (awaits_reply c.args.transaction_id) (permitted c.in-Some.ip c.args.transaction_id c.args.now) old.allocations lent c.permit.new.allocations c.as_mut_slice-allocations.ensures.value is) c.in_ok-push_back.ensures.ok) c.permit.ensures.ok
