use Rattle.std.proofs.Common.{ap, get_or}
use Rattle.turn_client_proto_allocation.proofs.Changes.{on_ok, put_there}
use Rattle.turn_client_proto_allocation.specs.declared.allocation.Allocation.{Allocation}
use Rattle.turn_client_proto_allocation.specs.PendingRequests.{awaits_reply}
use Rattle.turn_client_proto_peers.specs.Channel.Granted.{bound}
use Rattle.turn_client_proto_peers.proofs.channel.granted.bind.Goals as goal

pub returns-clause-ok : goal.returns-clause-ok
returns-clause-ok c =
    let x : Allocation = get_or c.args.allocations.now c.args.index c.index-allocations-index.result in
    let is_there = ap (λ y. get_or c.args.allocations.now c.args.index y) c.index-allocations-index.is in
    on_ok c.bind_in.result (λ is. put_there (awaits_reply c.args.request) (bound c.args.number c.args.peer c.args.request c.args.now) c.args.allocations.now c.args.index x c.bind_in.new.a c.requires is_there is) c.bind_in.ensures.ok
