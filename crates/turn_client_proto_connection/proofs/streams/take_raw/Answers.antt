use Rattle.std.proofs.Common.{List, [], Option, ap, drop, get_or, length, option_map, sym, take, ◌++◌, ◌∙◌}
use Rattle.std.specs.List.{find}
use Rattle.std.specs.Option.{option_and_then}
use Rattle.turn_client_proto_allocation.proofs.Changes.{found_at, put_there}
use Rattle.turn_client_proto_allocation.proofs.Lent.{first_back}
use Rattle.turn_types_frame.specs.Streams.{alive}
use Rattle.turn_client_proto_allocation.specs.declared.allocation.Allocation.{Allocation}
use Rattle.turn_client_proto_allocation.specs.declared.connection.Connection.{Connection}
use Rattle.turn_client_proto_connection.specs.Streams.{emptied_in, has_raw, is_any_raw, raw_in, raw_stored, with_stream}
use Rattle.turn_client_proto_connection.proofs.streams.take_raw.Goals as goal

pub returns-clause-given : goal.returns-clause-given
returns-clause-given c =
    let all = c.args.allocations.now in
    let x : Allocation = get_or all c.in_ok-index.index c.index-allocations-index.result in
    c.take_in.ensures.given
    ∙ ap (λ (l : List Connection). option_map raw_stored (find has_raw l)) c.as_mut_slice.ensures.value
    ∙ sym (ap (λ (o : Option Allocation). option_map raw_stored (option_and_then raw_in o)) (found_at is_any_raw all c.in_ok-index.index x (sym c.index_of_raw.ensures ∙ c.in_ok-index.was) (ap (λ y. get_or all c.in_ok-index.index y) c.index-allocations-index.is)))

pub returns-clause-after : goal.returns-clause-after
returns-clause-after c =
    let all = c.args.allocations.now in
    let x : Allocation = get_or all c.in_ok-index.index c.index-allocations-index.result in
    let left = c.take_in.new.connections in
    put_there is_any_raw emptied_in all c.in_ok-index.index x (record x { connections = take (length x.connections) (left ++ drop (length left) x.connections) })
    (sym c.index_of_raw.ensures ∙ c.in_ok-index.was) (ap (λ y. get_or all c.in_ok-index.index y) c.index-allocations-index.is)
    (ap (λ l. record x { connections = l }) (first_back has_raw (with_stream (alive [])) x.connections c.as_mut_slice.result.now left c.as_mut_slice.ensures.value c.take_in.ensures.after))
