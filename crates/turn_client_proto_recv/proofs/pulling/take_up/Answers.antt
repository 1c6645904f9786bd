use Rattle.turn_client_proto_recv.proofs.Noting.{once, then_failed}
use Rattle.turn_client_proto_recv.proofs.pulling.take_up.Goals as goal

pub returns-in-Ok-clause-noted : goal.returns-in-Ok-clause-noted
returns-in-Ok-clause-noted g c =
    once c.args.now c.args.protocol.now c.args.notes.now _ c.dispatch.new.protocol c.dispatch.new.notes c.dispatch.ensures.noted

pub returns-in-Ok-Handled-clause-noted : goal.returns-in-Ok-Handled-clause-noted
returns-in-Ok-Handled-clause-noted g c =
    once c.args.now c.args.protocol.now c.args.notes.now _ c.dispatch.new.protocol c.dispatch.new.notes c.dispatch.ensures.noted

pub returns-in-Ok-Ignored-clause-noted : goal.returns-in-Ok-Ignored-clause-noted
returns-in-Ok-Ignored-clause-noted g c =
    once c.args.now c.args.protocol.now c.args.notes.now _ c.dispatch.new.protocol c.dispatch.new.notes c.dispatch.ensures.noted

pub returns-in-Ok-Garbled-clause-noted : goal.returns-in-Ok-Garbled-clause-noted
returns-in-Ok-Garbled-clause-noted g c =
    once c.args.now c.args.protocol.now c.args.notes.now _ c.dispatch.new.protocol c.dispatch.new.notes c.dispatch.ensures.noted

pub returns-in-Err-clause-noted : goal.returns-in-Err-clause-noted
returns-in-Err-clause-noted g c =
    once c.args.now c.args.protocol.now c.args.notes.now _ c.dispatch.new.protocol c.dispatch.new.notes c.dispatch.ensures.noted

pub returns-in-Err-owned-clause-noted : goal.returns-in-Err-owned-clause-noted
returns-in-Err-owned-clause-noted g c =
    then_failed c.args.now c.args.protocol.now c.args.notes.now c.dispatch.new.protocol c.dispatch.new.notes (once c.args.now c.args.protocol.now c.args.notes.now _ c.dispatch.new.protocol c.dispatch.new.notes c.dispatch.ensures.noted) c.give_up.new.protocol c.give_up.ensures
