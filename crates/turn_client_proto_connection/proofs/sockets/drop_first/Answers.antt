use Rattle.std.proofs.Common.{ap, position, sym, ◌∙◌}
use Rattle.turn_client_proto_connection.specs.Sockets.{is_socket_for}
use Rattle.turn_client_proto_connection.proofs.Taken.{taken_at}
use Rattle.turn_client_proto_connection.proofs.sockets.drop_first.Goals as goal

pub returns-in-Some : goal.returns-in-Some
returns-in-Some c =
    let passes = is_socket_for c.args.connection c.args.peer in
    c.remove.ensures.others ∙ taken_at passes c.args.waiting.now c.in-Some.index (ap (position passes) (sym c.as_slice.ensures) ∙ sym c.index_among.ensures ∙ c.in-Some.is)
