use Rattle.std.proofs.Common.{ap, drop, get_or, length, sym, take, ◌++◌, ◌∙◌}
use Rattle.turn_client_proto_allocation.proofs.Changes.{put_there}
use Rattle.turn_client_proto_allocation.proofs.Lent.{first_back}
use Rattle.turn_client_proto_allocation.specs.declared.allocation.Allocation.{Allocation}
use Rattle.turn_client_proto_connection.specs.Sockets.{has_from, is_from}
use Rattle.turn_client_proto_connection.specs.Streams.{awaiting, waits_in}
use Rattle.turn_client_proto_connection.proofs.streams.await_from.Goals as goal

pub returns-in-Some : goal.returns-in-Some
returns-in-Some c =
    let all = c.args.allocations.now in
    let x : Allocation = get_or all c.in-Some.index c.index-allocations-index.result in
    let left = c.await_in.new.connections in
    put_there (has_from c.args.here) (waits_in c.args.here c.args.awaited) all c.in-Some.index x (record x { connections = take (length x.connections) (left ++ drop (length left) x.connections) })
    (sym c.index_from.ensures ∙ c.in-Some.is) (ap (λ y. get_or all c.in-Some.index y) c.index-allocations-index.is)
    (ap (λ l. record x { connections = l }) (first_back (is_from c.args.here) (awaiting c.args.awaited) x.connections c.as_mut_slice.result.now left c.as_mut_slice.ensures.value c.await_in.ensures))
