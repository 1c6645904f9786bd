use Rattle.std.proofs.Common.{slice_get, refl}
use Rattle.turn_client_proto_peers.specs.Permission.Asking.{asking}
use Rattle.turn_client_proto_core.proofs.Indexes.{read_there, undone}
use Rattle.turn_client_proto_core.proofs.protocol.Protocol.ask_by.Goals as goal

pub returns-in-Err-clause-err : goal.returns-in-Err-clause-err
returns-in-Err-clause-err c =
    let old = c.args.self.now in
    undone asking old c.ask-2.new.self c.forget.new.allocations c.ask.new.allocations c.args.index c.in_ok-pending.pending (slice_get old.allocations c.args.index) refl (read_there old.allocations c.args.index c.requires.there)
    c.in_ok-ask.ensures.ok c.in-Err.ensures.err c.forget.ensures
