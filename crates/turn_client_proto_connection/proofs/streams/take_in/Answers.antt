use Rattle.std.proofs.Common.{[], ap, get_or, option_map, Some, sym, ◌∙◌}
use Rattle.turn_client_proto_allocation.proofs.Changes.{found_at, put_there}
use Rattle.turn_types_frame.specs.Streams.{alive}
use Rattle.turn_client_proto_allocation.specs.declared.connection.Connection.{Connection}
use Rattle.turn_client_proto_connection.specs.Streams.{has_raw, raw_stored, with_stream}
use Rattle.turn_client_proto_connection.proofs.streams.take_in.Goals as goal

pub returns-clause-given : goal.returns-clause-given
returns-clause-given c =
    let all = c.args.connections.now in
    let x : Connection = get_or all c.in_ok-index.index c.index-connections-index.result in
    ap Some c.take_one.ensures.given
    ∙ sym (ap (option_map raw_stored) (found_at has_raw all c.in_ok-index.index x (sym c.index_raw.ensures ∙ c.in_ok-index.was) (ap (λ y. get_or all c.in_ok-index.index y) c.index-connections-index.is)))

pub returns-clause-after : goal.returns-clause-after
returns-clause-after c =
    let all = c.args.connections.now in
    let x : Connection = get_or all c.in_ok-index.index c.index-connections-index.result in
    put_there has_raw (with_stream (alive [])) all c.in_ok-index.index x c.take_one.new.connection (sym c.index_raw.ensures ∙ c.in_ok-index.was) (ap (λ y. get_or all c.in_ok-index.index y) c.index-connections-index.is) c.take_one.ensures.after
