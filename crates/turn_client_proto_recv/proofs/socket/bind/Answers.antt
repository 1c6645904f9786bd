use Rattle.std.proofs.Common.{refl, slice_get}
use Rattle.turn_client_proto_connection.specs.Sockets.{binding}
use Rattle.turn_client_proto_core.proofs.Indexes.{read_there, undone}
use Rattle.turn_client_proto_recv.proofs.socket.bind.Goals as goal

pub returns-in-Err-clause-err : goal.returns-in-Err-clause-err
returns-in-Err-clause-err c =
    let old = c.args.protocol.now in
    undone binding old c.ask_from.new.self c.forget.new.allocations c.bind.new.allocations c.args.index _ (slice_get old.allocations c.args.index) refl (read_there old.allocations c.args.index c.requires.there)
    c.in_ok-bind.ensures.ok c.in-Err.ensures.err c.forget.ensures
