use Rattle.std.proofs.Common.{ap, get_or}
use Rattle.turn_client_proto_allocation.proofs.Changes.{on_ok, put_there}
use Rattle.turn_client_proto_allocation.specs.declared.allocation.Allocation.{Allocation}
use Rattle.turn_client_proto_allocation.specs.PendingRequests.{awaits_reply}
use Rattle.turn_client_proto_connection.specs.Reported.{connected}
use Rattle.turn_client_proto_connection.proofs.reported.connect.Goals as goal

pub returns-clause-ok : goal.returns-clause-ok
returns-clause-ok c =
    let x : Allocation = get_or c.args.allocations.now c.args.index c.index-allocations-index.result in
    let is_there = ap (λ y. get_or c.args.allocations.now c.args.index y) c.index-allocations-index.is in
    on_ok c.connect_in.result (λ is. put_there (awaits_reply c.args.transaction_id) (connected c.args.connection c.args.peer c.args.transaction_id) c.args.allocations.now c.args.index x c.connect_in.new.a c.requires is_there is) c.connect_in.ensures.ok
