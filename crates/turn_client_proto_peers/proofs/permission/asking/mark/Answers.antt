use Rattle.std.proofs.Common.{ap, get_or, refl}
use Rattle.turn_client_proto_allocation.specs.declared.allocation.Allocation.{Allocation}
use Rattle.turn_client_proto_peers.specs.Permission.Asking.{marked}
use Rattle.turn_client_proto_allocation.proofs.Lent.{changed_in}
use Rattle.turn_client_proto_peers.proofs.permission.asking.mark.Goals as goal

pub returns : goal.returns
returns c =
    let x : Allocation = get_or c.as_mut_slice-items.result.now c.args.index c.index-items-index.result in
    let is_there = ap (λ y. get_or c.as_mut_slice-items.result.now c.args.index y) c.index-items-index.is in
    changed_in marked c.args.allocations.now c.as_mut_slice-items.result.now c.args.index x (marked x) c.as_mut_slice-items.ensures.value c.requires is_there refl
