use Rattle.std.proofs.Common.{ap, ◌∙◌}
use Rattle.turn_client_proto_timers.specs.Polling.{pace_of, wait_of, wait_to_send}
use Rattle.turn_client_proto_core.proofs.Results.{if_err, if_ok}
use Rattle.turn_client_proto_timers.proofs.Polls.{ticked_by, decoded_by}
use Rattle.turn_client_proto_timers.proofs.polling.poll_agent.Goals as goal

pub returns-clause-ok : goal.returns-clause-ok
returns-clause-ok c =
    let old = c.args.protocol.now in
    let ticked = c.poll-ticked.result in
    let wait = c.wait_of.ensures ∙ ap (λ w. wait_of w ticked) (c.wait_to_send-wait.ensures ∙ ap (wait_to_send (pace_of old) old.last_send old.queue c.args.now) c.longest_wait.ensures) in
    if_ok c.poll_phase.result (λ answer is. ticked_by old c.args.now ticked c.poll-ticked.new.self c.ended_of-ended.result c.wait_of.result answer c.poll_phase.new.protocol c.poll-ticked.ensures c.ended_of-ended.ensures wait is) c.poll_phase.ensures.ok

pub returns-clause-memory : goal.returns-clause-memory
returns-clause-memory c =
    if_err c.poll_phase.result (decoded_by c.args.protocol.now c.args.now c.poll-ticked.result c.poll-ticked.new.self c.ended_of-ended.result c.poll-ticked.ensures c.ended_of-ended.ensures) c.poll_phase.ensures.memory
