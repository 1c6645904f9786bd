use Rattle.std.proofs.Common.{sym, ◌∙◌}
use Rattle.turn_client_proto_timers.proofs.Polls.{answer_waits, named, no_events, none_waits}
use Rattle.turn_client_proto_core.proofs.UnderWay.{failed_from}
use Rattle.turn_client_proto_timers.proofs.polling.poll.Goals as goal

pub returns-in-Ok-clause-polled : goal.returns-in-Ok-clause-polled
returns-in-Ok-clause-polled c =
    let old = c.args.protocol.now in
    let no_answer = sym c.has_answer.ensures ∙ c.if-has_answer.false in
    named old c.args.now c.in-Ok.answer c.poll_agent.new.protocol c.in-Ok.ensures.named (no_events old.events c.len-events.result old c.args.now c.in-Ok.answer c.poll_agent.new.protocol c.len-events.ensures c.if-events-gt0.false no_answer c.in-Ok.ensures.ok)

pub returns-in-Err-clause-polled : goal.returns-in-Err-clause-polled
returns-in-Err-clause-polled c = record {
  failed = failed_from c.args.protocol.now c.poll_agent.new.protocol c.fail.new.self c.len-events.result c.len-events.ensures c.in-Err.ensures.err c.fail.ensures;
  no_event = none_waits c.args.protocol.now.events c.len-events.result c.len-events.ensures c.if-events-gt0.false;
  no_answer = sym c.has_answer.ensures ∙ c.if-has_answer.false;
  has_to_report = c.in-Err.ensures.memory;
}

pub returns-then-has_answer-clause-polled : goal.returns-then-has_answer-clause-polled
returns-then-has_answer-clause-polled c =
    let old = c.args.protocol.now in
    answer_waits old.events c.len-events.result old c.args.now c.len-events.ensures c.if-events-gt0.false (sym c.has_answer.ensures ∙ c.if-has_answer.true)
