use Rattle.std.proofs.Common.{ap, get_or, refl, sym, ◌∙◌}
use Rattle.turn_client_proto_allocation.proofs.Changes.{put_there}
use Rattle.turn_client_proto_allocation.specs.declared.connection.Connection.{Connection}
use Rattle.turn_client_proto_connection.specs.Sockets.{is_from}
use Rattle.turn_client_proto_connection.specs.Streams.{awaiting}
use Rattle.turn_client_proto_connection.proofs.streams.await_in.Goals as goal

pub returns-in-Some : goal.returns-in-Some
returns-in-Some c =
    let all = c.args.connections.now in
    let x : Connection = get_or all c.in-Some.index c.index-connections-index.result in
    put_there (is_from c.args.here) (awaiting c.args.awaited) all c.in-Some.index x (record x { awaited = c.args.awaited }) (sym c.index_in.ensures ∙ c.in-Some.is) (ap (λ y. get_or all c.in-Some.index y) c.index-connections-index.is) refl
