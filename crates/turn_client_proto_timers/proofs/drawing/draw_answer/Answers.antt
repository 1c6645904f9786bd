use Rattle.std.proofs.Common.{List, Option, ap, subst, sym, ◌∙◌}
use Rattle.std.specs.Option.{option_map}
use Rattle.turn_client_proto_messages.specs.Waiting.{Queued}
use Rattle.turn_client_proto_timers.specs.Drawing.{IsAnswerSent}
use Rattle.turn_client_proto_api.specs.Sent.{sent_of}
use Rattle.turn_client_proto_timers.proofs.drawing.draw_answer.Goals as goal

pub returns-in_err-queued : goal.returns-in_err-queued
returns-in_err-queued c =
    let p = c.args.protocol.now in
    subst (λ (o : Option Queued). IsAnswerSent o p (option_map sent_of c.from_residual.result) (record p { queue = c.take_answer.new.queue })) (sym c.in_err-queued.was ∙ c.take_answer.ensures.given)
    (ap (option_map sent_of) c.from_residual.ensures, ap (λ (q : List Queued). record p { queue = q }) c.in_err-queued.ensures.none)
