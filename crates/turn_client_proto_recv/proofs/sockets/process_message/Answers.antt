use Rattle.turn_client_proto_recv.proofs.Noting.{control_noted, socket_noted}
use Rattle.turn_client_proto_recv.proofs.sockets.process_message.Goals as goal

pub returns-in-Ok-clause-noted : goal.returns-in-Ok-clause-noted
returns-in-Ok-clause-noted c =
    control_noted c.args.now c.args.protocol.now c.args.notes.now c.args.message.now c.handle.new.protocol c.handle.new.notes c.handle.result c.handle.ensures.ok c.handle.ensures.err c.handle.ensures.noted

pub returns-else-eq-clause-noted : goal.returns-else-eq-clause-noted
returns-else-eq-clause-noted c =
    socket_noted c.args.now c.args.protocol.now c.args.notes.now c.args.message.now c.handle_at.new.protocol c.handle_at.new.notes c.args.here c.handle_at.result c.handle_at.ensures.ok c.handle_at.ensures.err c.handle_at.ensures.noted
