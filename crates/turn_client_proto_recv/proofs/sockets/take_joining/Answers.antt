use Rattle.std.proofs.Common.{sym, ◌∙◌}
use Rattle.turn_client_proto_recv.proofs.Exchanging.{still_joins, taken_for}
use Rattle.turn_client_proto_recv.proofs.Noting.{stored_noted, then_noted}
use Rattle.turn_client_proto_recv.proofs.sockets.take_joining.Goals as goal

pub take_frames-answer-requires : goal.take_frames-answer-requires
take_frames-answer-requires g c = still_joins c.args.transmit.to c.new-fresh.result c.args.protocol.now c.exchange.new.protocol c.exchange.ensures.after c.requires

pub returns-clause-taken : goal.returns-clause-taken
returns-clause-taken g c = λ k at.
    taken_for g.T.AsSlice.items k c.args.now c.args.protocol.now c.exchange.new.protocol c.take_frames-answer.new.protocol c.exchange-2.new.protocol c.args.transmit c.take_frames-answer.result c.in-Some.stream c.new-fresh.result c.take_frames-answer.new.stream
    at (sym c.in-Some.is ∙ c.exchange.ensures.given) c.new-fresh.ensures c.exchange.ensures.after c.take_frames-answer.ensures.taken c.exchange-2.ensures.after

pub returns-in_default-clause-noted : goal.returns-in_default-clause-noted
returns-in_default-clause-noted g c =
    stored_noted c.args.now c.args.notes.now c.args.transmit.to c.new-fresh.result c.args.protocol.now c.exchange.new.protocol c.exchange.ensures.after

pub returns-clause-noted : goal.returns-clause-noted
returns-clause-noted g c =
    then_noted c.args.now c.args.protocol.now c.args.notes.now c.take_frames-answer.new.protocol c.take_frames-answer.new.notes (then_noted c.args.now c.args.protocol.now c.args.notes.now c.exchange.new.protocol c.args.notes.now (stored_noted c.args.now c.args.notes.now c.args.transmit.to c.new-fresh.result c.args.protocol.now c.exchange.new.protocol c.exchange.ensures.after) c.take_frames-answer.new.protocol c.take_frames-answer.new.notes c.take_frames-answer.ensures.noted) c.exchange-2.new.protocol c.take_frames-answer.new.notes (stored_noted c.args.now c.take_frames-answer.new.notes c.args.transmit.to c.take_frames-answer.new.stream c.take_frames-answer.new.protocol c.exchange-2.new.protocol c.exchange-2.ensures.after)
