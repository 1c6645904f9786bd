use Rattle.std.proofs.Common.{ap, subst, take, ◌∙◌}
use Rattle.turn_client_proto_recv.specs.SocketChunks.{IsHeadTaken}
use Rattle.turn_client_proto_recv.proofs.Feeding.{attribute_head_taken}
use Rattle.turn_client_proto_recv.proofs.sockets.take_in_place.Goals as goal

pub returns-clause-taken : goal.returns-clause-taken
returns-clause-taken g c =
    subst (λ l. IsHeadTaken c.args.transmit.to c.args.now c.args.is_message l c.args.stream.now c.args.protocol.now c.args.transmit c.reported.result c.take_from-done.new.stream c.take_from-done.new.protocol)
    (c.split_at.ensures.front ∙ ap (λ l. take c.args.end l) c.as_slice.ensures)
    (attribute_head_taken c.args.transmit.to c.args.now c.args.is_message _ c.args.stream.now c.args.protocol.now c.args.transmit c.reported.result c.take_from-done.new.stream c.take_from-done.new.protocol
    c.take_from-done.result c.take_from-done.ensures.ok c.take_from-done.ensures.err c.reported.ensures)
