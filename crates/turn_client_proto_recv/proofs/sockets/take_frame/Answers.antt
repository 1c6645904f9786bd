use Rattle.std.proofs.Common.{subst}
use Rattle.turn_client_proto_recv.specs.Notes.{IsFrameNoted}
use Rattle.turn_client_proto_recv.proofs.sockets.take_frame.Goals as goal

pub returns-in-Ok-clause-noted : goal.returns-in-Ok-clause-noted
returns-in-Ok-clause-noted c =
    subst (λ l. IsFrameNoted c.args.now c.args.protocol.now c.args.notes.now l c.process_message.new.protocol c.process_message.new.notes) c.in-Ok.ensures.0 c.process_message.ensures.noted
