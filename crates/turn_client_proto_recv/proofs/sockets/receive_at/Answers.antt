use Rattle.std.proofs.Common.{ap, eqb, length, option_map, sym, ◌∙◌}
use Rattle.turn_client_proto_recv.proofs.Exchanging.{given_joined}
use Rattle.turn_client_proto_recv.specs.Notes.{Start}
use Rattle.turn_client_proto_recv.proofs.Exchanging.{raw_joined}
use Rattle.turn_client_proto_recv.proofs.Noting.{ended_noted, raw_noted}
use Rattle.turn_client_proto_recv.proofs.sockets.receive_at.Goals as goal

pub returns-clause-taken : goal.returns-clause-taken
returns-clause-taken g c =
    given_joined g.T.AsSlice.items c.args.now c.args.protocol.now c.give_joined.new.protocol c.args.transmit c.give_joined.result c.in-Some.connection.now
    (sym c.socket_of.ensures ∙ ap (option_map (λ k. k.now)) c.in-Some.is)
    (sym (ap (λ l. eqb (length l) 0) c.as_slice.ensures) ∙ sym c.is_empty.ensures ∙ c.if-is_empty.false)
    (sym c.is_some.ensures ∙ c.if-is_some.false)
    (sym c.is_empty-2.ensures ∙ c.if-is_empty-2.false)
    c.give_joined.ensures

pub returns-in_default-clause-noted : goal.returns-in_default-clause-noted
returns-in_default-clause-noted g c =
    Start

pub returns-then-is_empty-clause-noted : goal.returns-then-is_empty-clause-noted
returns-then-is_empty-clause-noted g c =
    ended_noted c.args.now c.args.notes.now c.args.protocol.now c.args.transmit c.end.result c.end.new.protocol c.end.ensures

pub returns-then-is_empty-2-clause-noted : goal.returns-then-is_empty-2-clause-noted
returns-then-is_empty-2-clause-noted g c =
    Start

pub returns-clause-noted : goal.returns-clause-noted
returns-clause-noted g c =
    raw_noted c.args.now c.args.notes.now g.T.AsSlice.items c.in-Some.connection.now c.args.protocol.now c.args.transmit c.give_joined.result c.give_joined.new.protocol
    (raw_joined g.T.AsSlice.items c.args.protocol.now c.give_joined.new.protocol c.args.transmit c.give_joined.result c.in-Some.connection.now
    (sym c.socket_of.ensures ∙ ap (option_map (λ k. k.now)) c.in-Some.is)
    (sym c.is_empty-2.ensures ∙ c.if-is_empty-2.false)
    c.give_joined.ensures)
