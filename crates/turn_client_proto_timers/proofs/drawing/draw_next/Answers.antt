use Rattle.std.specs.Option.{option_map}
use Rattle.turn_client_proto_api.specs.Sent.{sent_of}
use Rattle.turn_client_proto_timers.proofs.Draws.{nothing_waits}
use Rattle.turn_client_proto_core.proofs.Results.{if_ok}
use Rattle.turn_client_proto_timers.proofs.drawing.draw_next.Goals as goal

pub returns-in-None-clause-ok : goal.returns-in-None-clause-ok
returns-in-None-clause-ok c =
    if_ok c.begin.result (λ answer is. nothing_waits c.args.protocol.now c.pop_front.new.self c.args.now (option_map sent_of answer) c.begin.new.protocol c.in-None.ensures.items c.in-None.ensures.none is) c.begin.ensures.ok
