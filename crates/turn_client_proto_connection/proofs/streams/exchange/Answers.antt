use Rattle.std.proofs.Common.{List, Option, ap, drop, get_or, length, option_map, sym, take, ◌++◌, ◌∙◌}
use Rattle.std.specs.List.{find}
use Rattle.std.specs.Option.{option_and_then}
use Rattle.turn_client_proto_allocation.proofs.Changes.{found_at, put_there}
use Rattle.turn_client_proto_allocation.proofs.Lent.{first_back}
use Rattle.turn_client_proto_allocation.specs.declared.allocation.Allocation.{Allocation}
use Rattle.turn_client_proto_allocation.specs.declared.connection.Connection.{Connection}
use Rattle.turn_client_proto_connection.specs.Sockets.{has_from, is_from}
use Rattle.turn_client_proto_connection.specs.Streams.{exchanged_in, from_in, with_stream}
use Rattle.turn_client_proto_connection.proofs.streams.exchange.Goals as goal

pub returns-clause-given : goal.returns-clause-given
returns-clause-given c =
    let all = c.args.allocations.now in
    let x : Allocation = get_or all c.in_ok-index.index c.index-allocations-index.result in
    c.exchange_in.ensures.given
    ∙ ap (λ (l : List Connection). option_map (λ (k : Connection). k.stream) (find (is_from c.args.here) l)) c.as_mut_slice.ensures.value
    ∙ sym (ap (λ (o : Option Allocation). option_map (λ (k : Connection). k.stream) (option_and_then (from_in c.args.here) o)) (found_at (has_from c.args.here) all c.in_ok-index.index x (sym c.index_from.ensures ∙ c.in_ok-index.was) (ap (λ y. get_or all c.in_ok-index.index y) c.index-allocations-index.is)))

pub returns-clause-after : goal.returns-clause-after
returns-clause-after c =
    let all = c.args.allocations.now in
    let x : Allocation = get_or all c.in_ok-index.index c.index-allocations-index.result in
    let left = c.exchange_in.new.connections in
    put_there (has_from c.args.here) (exchanged_in c.args.here c.args.stream) all c.in_ok-index.index x (record x { connections = take (length x.connections) (left ++ drop (length left) x.connections) })
    (sym c.index_from.ensures ∙ c.in_ok-index.was) (ap (λ y. get_or all c.in_ok-index.index y) c.index-allocations-index.is)
    (ap (λ l. record x { connections = l }) (first_back (is_from c.args.here) (with_stream c.args.stream) x.connections c.as_mut_slice.result.now left c.as_mut_slice.ensures.value c.exchange_in.ensures.after))
