use Rattle.std.proofs.Common.{ap, get_or, option_map, Some, sym, ◌∙◌}
use Rattle.turn_client_proto_allocation.proofs.Changes.{found_at, put_there}
use Rattle.turn_client_proto_allocation.specs.declared.connection.Connection.{Connection}
use Rattle.turn_client_proto_connection.specs.Sockets.{is_from}
use Rattle.turn_client_proto_connection.specs.Streams.{with_stream}
use Rattle.turn_client_proto_connection.proofs.streams.exchange_in.Goals as goal

pub returns-clause-given : goal.returns-clause-given
returns-clause-given c =
    let all = c.args.connections.now in
    let x : Connection = get_or all c.in_ok-index.index c.index-connections-index.result in
    ap Some c.replace.ensures.value
    ∙ sym (ap (option_map (λ (c : Connection). c.stream)) (found_at (is_from c.args.here) all c.in_ok-index.index x (sym c.index_in.ensures ∙ c.in_ok-index.was) (ap (λ y. get_or all c.in_ok-index.index y) c.index-connections-index.is)))

pub returns-clause-after : goal.returns-clause-after
returns-clause-after c =
    let all = c.args.connections.now in
    let x : Connection = get_or all c.in_ok-index.index c.index-connections-index.result in
    put_there (is_from c.args.here) (with_stream c.args.stream) all c.in_ok-index.index x (record x { stream = c.replace.new.dest }) (sym c.index_in.ensures ∙ c.in_ok-index.was) (ap (λ y. get_or all c.in_ok-index.index y) c.index-connections-index.is)
    (ap (λ s. record x { stream = s }) c.replace.ensures.after)
