use Rattle.turn_client_proto_core.proofs.UnderWay.{after_transmit, on_err}
use Rattle.turn_client_proto_timers.proofs.drawing.draw_again.Goals as goal

pub returns-in_err-bytes-clause-err : goal.returns-in_err-bytes-clause-err
returns-in_err-bytes-clause-err c =
    on_err c.from_residual.result (after_transmit c.args.protocol.now c.poll_transmit.follows.lender-at-none c.args.now c.poll_transmit.follows.holds-at-none)
