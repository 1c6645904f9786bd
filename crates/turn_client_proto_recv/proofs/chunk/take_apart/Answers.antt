use Rattle.std.proofs.Common.{true, false, refl}
use Rattle.turn_client_proto_recv.proofs.Taking.{following, gave_apart}
use Rattle.turn_client_proto_recv.proofs.Noting.{once, payload_noted, then_noted}
use Rattle.turn_client_proto_recv.proofs.chunk.take_apart.Goals as goal

pub returns-in-Ok-Given-clause-taken : goal.returns-in-Ok-Given-clause-taken
returns-in-Ok-Given-clause-taken g c =
    gave_apart c.args.now true c.args.frame.now c.args.stream.now c.args.protocol.now c.args.transmit c.given_apart.result c.args.stream.now c.given_apart.new.protocol c.dispatch.new.protocol
    c.in-Ok-Given.field-0 c.in-Ok-Given.payload refl c.in-Ok-Given.field-0-is c.in-Ok-Given.ensures.ok c.given_apart.ensures refl

pub returns-in-Ok-Handled-clause-taken : goal.returns-in-Ok-Handled-clause-taken
returns-in-Ok-Handled-clause-taken g c =
    following c.args.now true c.args.frame.now c.args.stream.now c.args.protocol.now c.args.transmit c.go_on.result c.go_on.new.stream c.go_on.new.protocol c.dispatch.new.protocol
    true c.in-Ok-Handled.field-0 c.in-Ok-Handled.field-0-is c.in-Ok-Handled.ensures.ok c.go_on.ensures.taken

pub returns-in-Ok-Ignored-clause-taken : goal.returns-in-Ok-Ignored-clause-taken
returns-in-Ok-Ignored-clause-taken g c =
    following c.args.now true c.args.frame.now c.args.stream.now c.args.protocol.now c.args.transmit c.go_on-in-Ok-Ignored.result c.go_on-in-Ok-Ignored.new.stream c.go_on-in-Ok-Ignored.new.protocol c.dispatch.new.protocol
    false c.in-Ok-Ignored.field-0 c.in-Ok-Ignored.field-0-is c.in-Ok-Ignored.ensures.ok c.go_on-in-Ok-Ignored.ensures.taken

pub returns-in-Ok-Given-clause-noted : goal.returns-in-Ok-Given-clause-noted
returns-in-Ok-Given-clause-noted g c =
    then_noted c.args.now c.args.protocol.now c.args.notes.now c.dispatch.new.protocol c.dispatch.new.notes (once c.args.now c.args.protocol.now c.args.notes.now _ c.dispatch.new.protocol c.dispatch.new.notes c.dispatch.ensures.noted) c.given_apart.new.protocol c.dispatch.new.notes (payload_noted c.args.now c.dispatch.new.notes c.args.frame.now c.in-Ok-Given.payload c.args.transmit c.dispatch.new.protocol c.given_apart.result c.given_apart.new.protocol c.given_apart.ensures)

pub returns-in-Ok-Handled-clause-noted : goal.returns-in-Ok-Handled-clause-noted
returns-in-Ok-Handled-clause-noted g c =
    then_noted c.args.now c.args.protocol.now c.args.notes.now c.dispatch.new.protocol c.dispatch.new.notes (once c.args.now c.args.protocol.now c.args.notes.now _ c.dispatch.new.protocol c.dispatch.new.notes c.dispatch.ensures.noted) c.go_on.new.protocol c.go_on.new.notes c.go_on.ensures.noted

pub returns-in-Ok-Ignored-clause-noted : goal.returns-in-Ok-Ignored-clause-noted
returns-in-Ok-Ignored-clause-noted g c =
    then_noted c.args.now c.args.protocol.now c.args.notes.now c.dispatch.new.protocol c.dispatch.new.notes (once c.args.now c.args.protocol.now c.args.notes.now _ c.dispatch.new.protocol c.dispatch.new.notes c.dispatch.ensures.noted) c.go_on-in-Ok-Ignored.new.protocol c.go_on-in-Ok-Ignored.new.notes c.go_on-in-Ok-Ignored.ensures.noted

pub returns-in-Ok-Garbled-clause-noted : goal.returns-in-Ok-Garbled-clause-noted
returns-in-Ok-Garbled-clause-noted g c =
    once c.args.now c.args.protocol.now c.args.notes.now _ c.dispatch.new.protocol c.dispatch.new.notes c.dispatch.ensures.noted

pub returns-in-Err-clause-noted : goal.returns-in-Err-clause-noted
returns-in-Err-clause-noted g c =
    once c.args.now c.args.protocol.now c.args.notes.now _ c.dispatch.new.protocol c.dispatch.new.notes c.dispatch.ensures.noted
