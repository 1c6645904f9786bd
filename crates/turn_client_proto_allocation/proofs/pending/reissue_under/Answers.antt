use Rattle.std.proofs.Common.{ap, get_or}
use Rattle.turn_client_proto_allocation.proofs.Changes.{on_ok, put_there}
use Rattle.turn_client_proto_allocation.specs.declared.allocation.Allocation.{Allocation}
use Rattle.turn_client_proto_allocation.specs.PendingRequests.{reissued_under, awaits_reply}
use Rattle.turn_client_proto_allocation.proofs.pending.reissue_under.Goals as goal

pub returns : goal.returns
returns c =
    let x : Allocation = get_or c.args.allocations.now c.args.index c.index-allocations-index.result in
    let is_there = ap (λ y. get_or c.args.allocations.now c.args.index y) c.index-allocations-index.is in
    on_ok c.reissue_one_under.result (λ is. put_there (awaits_reply c.args.old) (reissued_under c.args.requested c.args.old c.args.transaction_id) c.args.allocations.now c.args.index x c.reissue_one_under.new.a c.requires is_there is) c.reissue_one_under.ensures
