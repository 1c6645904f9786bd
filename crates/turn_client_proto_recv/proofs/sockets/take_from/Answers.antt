use Rattle.turn_client_proto_recv.proofs.Feeding.{lost_from, taken_from}
use Rattle.turn_client_proto_recv.proofs.Noting.{once, then_noted}
use Rattle.turn_client_proto_recv.proofs.sockets.take_from.Goals as goal

pub returns-clause-ok : goal.returns-clause-ok
returns-clause-ok c =
    taken_from c.args.here c.args.now c.args.frame.now c.args.stream.now c.args.protocol.now c.take_frame.new.protocol c.feed.new.stream c.feed.new.protocol c.in_ok-take_frame.ensures.ok c.feed.result c.feed.ensures.ok

pub returns-clause-err : goal.returns-clause-err
returns-clause-err c =
    lost_from c.args.here c.args.now c.args.frame.now c.args.stream.now c.args.protocol.now c.take_frame.new.protocol c.feed.new.stream c.feed.new.protocol c.in_ok-take_frame.ensures.ok c.feed.result c.feed.ensures.err

pub returns-in_err-take_frame-clause-noted : goal.returns-in_err-take_frame-clause-noted
returns-in_err-take_frame-clause-noted c =
    once c.args.now c.args.protocol.now c.args.notes.now _ c.take_frame.new.protocol c.take_frame.new.notes c.take_frame.ensures.noted

pub returns-clause-noted : goal.returns-clause-noted
returns-clause-noted c =
    then_noted c.args.now c.args.protocol.now c.args.notes.now c.take_frame.new.protocol c.take_frame.new.notes (once c.args.now c.args.protocol.now c.args.notes.now _ c.take_frame.new.protocol c.take_frame.new.notes c.take_frame.ensures.noted) c.feed.new.protocol c.feed.new.notes c.feed.ensures.noted
