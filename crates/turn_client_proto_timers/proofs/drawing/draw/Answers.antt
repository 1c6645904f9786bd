use Rattle.turn_client_proto_timers.proofs.Draws.{repeated}
use Rattle.turn_client_proto_timers.proofs.drawing.draw.Goals as goal

pub returns-in-Some-clause-ok : goal.returns-in-Some-clause-ok
returns-in-Some-clause-ok c =
    repeated _ c.args.protocol.now c.args.now c.draw_again.new.protocol c.in_ok-again.field-0 c.in-Some.again c.in-Some.is c.in_ok-again.ensures.ok
