use Rattle.std.proofs.Common.{true, false, take, ap, ◌∙◌, subst}
use Rattle.turn_client_proto_recv.specs.HandingIn.{IsFrameTaken}
use Rattle.turn_client_proto_recv.proofs.Taking.{following, gave_in_place}
use Rattle.turn_client_proto_recv.proofs.Noting.{once, then_noted}
use Rattle.turn_client_proto_recv.proofs.chunk.take_in_place.Goals as goal

pub returns-in-Ok-Given-clause-taken : goal.returns-in-Ok-Given-clause-taken
returns-in-Ok-Given-clause-taken g c =
    gave_in_place g.T.AsSlice.items c.args.now c.args.end _ c.args.stream.now c.args.protocol.now c.dispatch.new.protocol c.args.transmit c.given.result c.in-Ok-Given.field-0 c.in-Ok-Given.payload
    (c.split_at.ensures.front ∙ ap (λ l. take c.args.end l) c.as_slice.ensures) c.in-Ok-Given.field-0-is c.in-Ok-Given.ensures.ok c.given.ensures

pub returns-in-Ok-Handled-clause-taken : goal.returns-in-Ok-Handled-clause-taken
returns-in-Ok-Handled-clause-taken g c =
    following c.args.now false (take c.args.end (g.T.AsSlice.items c.args.transmit.bytes)) c.args.stream.now c.args.protocol.now c.args.transmit c.go_on.result c.go_on.new.stream c.go_on.new.protocol c.dispatch.new.protocol
    true c.in-Ok-Handled.field-0 c.in-Ok-Handled.field-0-is
    (subst (λ l. IsFrameTaken c.args.protocol.now l c.args.now c.in-Ok-Handled.field-0 c.dispatch.new.protocol) (c.split_at.ensures.front ∙ ap (λ l. take c.args.end l) c.as_slice.ensures) c.in-Ok-Handled.ensures.ok)
    c.go_on.ensures.taken

pub returns-in-Ok-Ignored-clause-taken : goal.returns-in-Ok-Ignored-clause-taken
returns-in-Ok-Ignored-clause-taken g c =
    following c.args.now false (take c.args.end (g.T.AsSlice.items c.args.transmit.bytes)) c.args.stream.now c.args.protocol.now c.args.transmit c.go_on-in-Ok-Ignored.result c.go_on-in-Ok-Ignored.new.stream c.go_on-in-Ok-Ignored.new.protocol c.dispatch.new.protocol
    false c.in-Ok-Ignored.field-0 c.in-Ok-Ignored.field-0-is
    (subst (λ l. IsFrameTaken c.args.protocol.now l c.args.now c.in-Ok-Ignored.field-0 c.dispatch.new.protocol) (c.split_at.ensures.front ∙ ap (λ l. take c.args.end l) c.as_slice.ensures) c.in-Ok-Ignored.ensures.ok)
    c.go_on-in-Ok-Ignored.ensures.taken

pub returns-in-Ok-Given-clause-noted : goal.returns-in-Ok-Given-clause-noted
returns-in-Ok-Given-clause-noted g c =
    once c.args.now c.args.protocol.now c.args.notes.now _ c.dispatch.new.protocol c.dispatch.new.notes c.dispatch.ensures.noted

pub returns-in-Ok-Handled-clause-noted : goal.returns-in-Ok-Handled-clause-noted
returns-in-Ok-Handled-clause-noted g c =
    then_noted c.args.now c.args.protocol.now c.args.notes.now c.dispatch.new.protocol c.dispatch.new.notes (once c.args.now c.args.protocol.now c.args.notes.now _ c.dispatch.new.protocol c.dispatch.new.notes c.dispatch.ensures.noted) c.go_on.new.protocol c.go_on.new.notes c.go_on.ensures.noted

pub returns-in-Ok-Ignored-clause-noted : goal.returns-in-Ok-Ignored-clause-noted
returns-in-Ok-Ignored-clause-noted g c =
    then_noted c.args.now c.args.protocol.now c.args.notes.now c.dispatch.new.protocol c.dispatch.new.notes (once c.args.now c.args.protocol.now c.args.notes.now _ c.dispatch.new.protocol c.dispatch.new.notes c.dispatch.ensures.noted) c.go_on-in-Ok-Ignored.new.protocol c.go_on-in-Ok-Ignored.new.notes c.go_on-in-Ok-Ignored.ensures.noted

pub returns-in-Ok-Garbled-clause-noted : goal.returns-in-Ok-Garbled-clause-noted
returns-in-Ok-Garbled-clause-noted g c =
    once c.args.now c.args.protocol.now c.args.notes.now _ c.dispatch.new.protocol c.dispatch.new.notes c.dispatch.ensures.noted

pub returns-in-Err-clause-noted : goal.returns-in-Err-clause-noted
returns-in-Err-clause-noted g c =
    once c.args.now c.args.protocol.now c.args.notes.now _ c.dispatch.new.protocol c.dispatch.new.notes c.dispatch.ensures.noted
