use Rattle.std.proofs.Common.{ap, get_or, refl, sym, ◌∙◌}
use Rattle.turn_client_proto_allocation.proofs.Changes.{found_at, put_there}
use Rattle.turn_client_proto_allocation.specs.declared.connection.Waiting.{Waiting}
use Rattle.turn_client_proto_connection.specs.Waiting.{requested, is_unasked}
use Rattle.turn_client_proto_connection.proofs.waiting.ask_in.Goals as goal

pub returns-clause-given : goal.returns-clause-given
returns-clause-given c =
    sym (found_at is_unasked c.args.waiting.now c.in_ok-index.index c.index-waiting-index.result (sym c.index_unasked.ensures ∙ c.in_ok-index.was) c.index-waiting-index.is)

pub returns-clause-after : goal.returns-clause-after
returns-clause-after c =
    let x : Waiting = get_or c.args.waiting.now c.in_ok-index.index c.index-waiting-index-2.result in
    let is_there = ap (λ y. get_or c.args.waiting.now c.in_ok-index.index y) c.index-waiting-index-2.is in
    put_there is_unasked requested c.args.waiting.now c.in_ok-index.index x (requested x) (sym c.index_unasked.ensures ∙ c.in_ok-index.was) is_there refl
