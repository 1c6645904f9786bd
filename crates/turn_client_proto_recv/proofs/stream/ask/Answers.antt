use Rattle.turn_client_proto_recv.proofs.Asking.{loss_answered, none_answered, pull_answered, raw_answered}
use Rattle.turn_client_proto_recv.proofs.Noting.{then_noted, waiting_noted}
use Rattle.turn_client_proto_recv.proofs.stream.ask.Goals as goal

pub returns-in-Some-clause-ok : goal.returns-in-Some-clause-ok
returns-in-Some-clause-ok c =
    raw_answered c.args.now c.args.control.now c.args.protocol.now c.take_waiting.result c.in-Some.given c.take_waiting.new.protocol c.in-Some.is c.take_waiting.ensures

pub returns-in-Some-control-clause-ok : goal.returns-in-Some-control-clause-ok
returns-in-Some-control-clause-ok c =
    pull_answered c.args.now c.args.control.now c.args.protocol.now c.take_waiting.result c.take_waiting.new.protocol c.in_default.is c.take_waiting.ensures c.in-Some-control.stream c.pull.new.stream c.pull.new.protocol c.in-Some-control.is c.pull.result c.pull.ensures.ok

pub returns-in-Some-control-clause-err : goal.returns-in-Some-control-clause-err
returns-in-Some-control-clause-err c =
    loss_answered c.args.now c.args.control.now c.args.protocol.now c.take_waiting.result c.take_waiting.new.protocol c.in_default.is c.take_waiting.ensures c.in-Some-control.stream c.pull.new.stream c.pull.new.protocol c.in-Some-control.is c.pull.result c.pull.ensures.err

pub returns-in-None-clause-ok : goal.returns-in-None-clause-ok
returns-in-None-clause-ok c =
    none_answered c.args.now c.args.control.now c.args.protocol.now c.take_waiting.result c.take_waiting.new.protocol c.in_default.is c.take_waiting.ensures c.in-None.is

pub returns-in-Some-clause-noted : goal.returns-in-Some-clause-noted
returns-in-Some-clause-noted c =
    waiting_noted c.args.now c.args.notes.now c.args.protocol.now c.take_waiting.result c.take_waiting.new.protocol c.take_waiting.ensures

pub returns-in-Some-control-clause-noted : goal.returns-in-Some-control-clause-noted
returns-in-Some-control-clause-noted c =
    then_noted c.args.now c.args.protocol.now c.args.notes.now c.take_waiting.new.protocol c.args.notes.now (waiting_noted c.args.now c.args.notes.now c.args.protocol.now c.take_waiting.result c.take_waiting.new.protocol c.take_waiting.ensures) c.pull.new.protocol c.pull.new.notes c.pull.ensures.noted

pub returns-in-None-clause-noted : goal.returns-in-None-clause-noted
returns-in-None-clause-noted c =
    waiting_noted c.args.now c.args.notes.now c.args.protocol.now c.take_waiting.result c.take_waiting.new.protocol c.take_waiting.ensures
