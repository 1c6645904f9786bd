use Rattle.turn_client_proto_recv.proofs.Feeding.{attribute_head_taken}
use Rattle.turn_client_proto_recv.proofs.sockets.take_apart.Goals as goal

pub returns-clause-taken : goal.returns-clause-taken
returns-clause-taken g c =
    attribute_head_taken c.args.transmit.to c.args.now c.args.is_message c.args.frame.now c.args.stream.now c.args.protocol.now c.args.transmit c.reported.result c.take_from-done.new.stream c.take_from-done.new.protocol
    c.take_from-done.result c.take_from-done.ensures.ok c.take_from-done.ensures.err c.reported.ensures
