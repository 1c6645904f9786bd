use Rattle.std.proofs.Common.{ap, sym, ◌∙◌}
use Rattle.turn_client_proto_allocation.proofs.Changes.{at_index, find_is}
use Rattle.turn_client_proto_messages.specs.Waiting.{is_answer}
use Rattle.turn_client_proto_timers.proofs.answers.take_answer.Goals as goal

pub returns-in_err-index-clause-given : goal.returns-in_err-index-clause-given
returns-in_err-index-clause-given c =
    let queue = c.args.queue.now in
    c.from_residual.ensures ∙ sym (find_is is_answer queue ∙ ap (at_index queue) (sym c.index_of.ensures ∙ c.in_err-index.was))

pub returns-clause-given : goal.returns-clause-given
returns-clause-given c =
    let queue = c.args.queue.now in
    c.remove.ensures.given ∙ sym (find_is is_answer queue ∙ ap (at_index queue) (sym c.index_of.ensures ∙ c.in_ok-index.was))
