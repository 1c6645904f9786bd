use Rattle.std.proofs.Common.{subst}
use Rattle.turn_client_proto_recv.specs.Notes.{IsFrameNoted}
use Rattle.turn_client_proto_recv.proofs.Noting.{control_noted}
use Rattle.turn_client_proto_recv.proofs.handing.dispatch.Goals as goal

pub returns-in-Ok-true-clause-noted : goal.returns-in-Ok-true-clause-noted
returns-in-Ok-true-clause-noted c =
    subst (λ l. IsFrameNoted c.args.now c.args.protocol.now c.args.notes.now l c.handle.new.protocol c.handle.new.notes) c.in-Ok.ensures.0
    (control_noted c.args.now c.args.protocol.now c.args.notes.now _ c.handle.new.protocol c.handle.new.notes c.handle.result c.handle.ensures.ok c.handle.ensures.err c.handle.ensures.noted)

pub returns-in-Ok-false-clause-noted : goal.returns-in-Ok-false-clause-noted
returns-in-Ok-false-clause-noted c =
    subst (λ l. IsFrameNoted c.args.now c.args.protocol.now c.args.notes.now l c.handle.new.protocol c.handle.new.notes) c.in-Ok.ensures.0
    (control_noted c.args.now c.args.protocol.now c.args.notes.now _ c.handle.new.protocol c.handle.new.notes c.handle.result c.handle.ensures.ok c.handle.ensures.err c.handle.ensures.noted)
