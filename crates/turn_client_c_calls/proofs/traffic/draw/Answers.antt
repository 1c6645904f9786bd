use Rattle.std.proofs.Common.{rules, refl}
use Rattle.turn_client_c_calls.proofs.Reporting.{is_transmitted}
use Rattle.turn_client_c_calls.proofs.traffic.draw.Goals as goal

pub returns : goal.returns
returns c =
    is_transmitted c.poll_transmit-answer.result c.args.now _ c.args.out.now c.report_transmitted.new.out c.args.transmit.now c.report_transmitted.new.transmit c.args.whole.now (record { client = c.poll_transmit-answer.new.self; joined = c.args.whole.now.joined })
    c.poll_transmit-answer.ensures.ok c.poll_transmit-answer.ensures.err c.poll_transmit-answer.ensures.memory refl
    (search rules) c.report_transmitted.ensures.bytes c.report_transmitted.ensures.reported
