use Rattle.std.proofs.Common.{refl}
use Rattle.turn_client_proto_api.specs.declared.answer.TurnRecvRet.TheVariants as recv
use Rattle.turn_client_proto_recv.proofs.Received.{received_ok}
use Rattle.turn_client_proto_recv.specs.declared.handing.Taken.TheVariants.{Handled, Ignored, Garbled}
use Rattle.turn_client_proto_recv.proofs.Noting.{once}
use Rattle.turn_client_proto_recv.proofs.datagram.take_datagram.Goals as goal

pub returns-in-Ok-Handled-clause-taken : goal.returns-in-Ok-Handled-clause-taken
returns-in-Ok-Handled-clause-taken g c =
    received_ok g.T.AsSlice.items c.args.transmit recv.Handled c.args.protocol.now c.as_slice.result.now c.args.now c.dispatch.new.protocol c.as_slice.ensures
    c.in-Ok-Handled.field-0 Handled c.in-Ok-Handled.field-0-is c.in-Ok-Handled.ensures.ok refl

pub returns-in-Ok-Ignored-clause-taken : goal.returns-in-Ok-Ignored-clause-taken
returns-in-Ok-Ignored-clause-taken g c =
    received_ok g.T.AsSlice.items c.args.transmit (recv.Ignored c.args.transmit) c.args.protocol.now c.as_slice.result.now c.args.now c.dispatch.new.protocol c.as_slice.ensures
    c.in-Ok-Ignored.field-0 Ignored c.in-Ok-Ignored.field-0-is c.in-Ok-Ignored.ensures.ok refl

pub returns-in-Ok-Garbled-clause-taken : goal.returns-in-Ok-Garbled-clause-taken
returns-in-Ok-Garbled-clause-taken g c =
    received_ok g.T.AsSlice.items c.args.transmit (recv.Ignored c.args.transmit) c.args.protocol.now c.as_slice.result.now c.args.now c.dispatch.new.protocol c.as_slice.ensures
    c.in-Ok-Garbled.field-0 Garbled c.in-Ok-Garbled.field-0-is c.in-Ok-Garbled.ensures.ok refl

pub returns-in-Ok-Given-clause-noted : goal.returns-in-Ok-Given-clause-noted
returns-in-Ok-Given-clause-noted g c =
    once c.args.now c.args.protocol.now c.args.notes.now _ c.dispatch.new.protocol c.dispatch.new.notes c.dispatch.ensures.noted

pub returns-in-Ok-Handled-clause-noted : goal.returns-in-Ok-Handled-clause-noted
returns-in-Ok-Handled-clause-noted g c =
    once c.args.now c.args.protocol.now c.args.notes.now _ c.dispatch.new.protocol c.dispatch.new.notes c.dispatch.ensures.noted

pub returns-in-Ok-Ignored-clause-noted : goal.returns-in-Ok-Ignored-clause-noted
returns-in-Ok-Ignored-clause-noted g c =
    once c.args.now c.args.protocol.now c.args.notes.now _ c.dispatch.new.protocol c.dispatch.new.notes c.dispatch.ensures.noted

pub returns-in-Ok-Garbled-clause-noted : goal.returns-in-Ok-Garbled-clause-noted
returns-in-Ok-Garbled-clause-noted g c =
    once c.args.now c.args.protocol.now c.args.notes.now _ c.dispatch.new.protocol c.dispatch.new.notes c.dispatch.ensures.noted

pub returns-in-Err-clause-noted : goal.returns-in-Err-clause-noted
returns-in-Err-clause-noted g c =
    once c.args.now c.args.protocol.now c.args.notes.now _ c.dispatch.new.protocol c.dispatch.new.notes c.dispatch.ensures.noted
