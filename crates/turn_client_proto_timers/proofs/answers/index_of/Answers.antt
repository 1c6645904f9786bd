use Rattle.std.proofs.Common.{ap, position, sym, ◌∙◌}
use Rattle.turn_client_proto_messages.specs.Waiting.{is_answer}
use Rattle.turn_client_proto_timers.proofs.Answering.{index_after, index_in_head, index_nowhere}
use Rattle.turn_client_proto_timers.proofs.answers.index_of.Goals as goal

pub returns-in-Some : goal.returns-in-Some
returns-in-Some c =
    let head = c.as_slices.result.0.now in
    let following = c.as_slices.result.1.now in
    sym (index_in_head is_answer head following c.in-Some.index (sym c.index_in.ensures ∙ c.in-Some.is)) ∙ ap (position is_answer) c.as_slices.ensures

pub returns-in_err-index : goal.returns-in_err-index
returns-in_err-index c =
    let head = c.as_slices.result.0.now in
    let following = c.as_slices.result.1.now in
    c.from_residual.ensures ∙ sym (index_nowhere is_answer head following (sym c.index_in.ensures ∙ c.in_default.is) (sym c.index_in-2.ensures ∙ c.in_err-index.was)) ∙ ap (position is_answer) c.as_slices.ensures

pub returns : goal.returns
returns c =
    let head = c.as_slices.result.0.now in
    let following = c.as_slices.result.1.now in
    sym (index_after is_answer head following c.in_ok-index.index (sym c.index_in.ensures ∙ c.in_default.is) (sym c.index_in-2.ensures ∙ c.in_ok-index.was)) ∙ ap (position is_answer) c.as_slices.ensures
