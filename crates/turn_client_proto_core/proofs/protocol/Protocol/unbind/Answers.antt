use Rattle.turn_client_proto_allocation.proofs.Changes.{on_ok}
use Rattle.turn_client_proto_allocation.proofs.Lent.{each_back}
use Rattle.turn_client_proto_peers.specs.Channel.Granted.{rejected}
use Rattle.turn_client_proto_core.specs.Binding.{permission_with}
use Rattle.turn_client_proto_core.proofs.Bound.{beside_is, unbound_is}
use Rattle.turn_client_proto_core.proofs.protocol.Protocol.unbind.Goals as goal

pub returns-clause-ok : goal.returns-clause-ok
returns-clause-ok c =
    let old = c.args.self.now in
    let beside = beside_is old.allocations c.as_slice.result.now c.args.transaction_id c.args.index c.index-as_slice-index.result c.permission_requested-beside.result c.requires c.as_slice.ensures c.index-as_slice-index.is c.permission_requested-beside.ensures in
    let left = each_back (rejected c.args.transaction_id) old.allocations c.as_mut_slice.result.now c.reject.new.allocations c.as_mut_slice.ensures.value c.reject.ensures in
    on_ok c.refuse_beside.result (unbound_is old c.refuse_beside.new.self c.args.transport c.args.peer c.args.transaction_id (permission_with c.args.transaction_id old.allocations) c.permission_requested-beside.result _ c.push_back.new.self beside left c.in_ok-push_back.ensures.ok) c.refuse_beside.ensures.ok
