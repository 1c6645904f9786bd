use Rattle.std.proofs.Common.{ap, find, get_or, sym, ◌∙◌}
use Rattle.std.specs.Option.{option_and_then}
use Rattle.turn_client_proto_allocation.proofs.Changes.{found_at, put_there}
use Rattle.turn_client_proto_allocation.specs.declared.allocation.Allocation.{Allocation}
use Rattle.turn_client_proto_allocation.proofs.Lent.{first_back}
use Rattle.turn_client_proto_connection.specs.Waiting.{requested, requested_in, has_unasked, is_unasked, unasked_of}
use Rattle.turn_client_proto_connection.proofs.waiting.ask_first.Goals as goal

pub returns-clause-given : goal.returns-clause-given
returns-clause-given c =
    let all = c.args.allocations.now in
    let x : Allocation = c.index-allocations-index.result in
    let found = found_at has_unasked all c.in_ok-index.index x (sym c.index_of.ensures ∙ c.in_ok-index.was) c.index-allocations-index.is in
    let slice = c.as_mut_slice.ensures.value ∙ ap (λ (a : Allocation). a.waiting) (sym c.index-allocations-index.is) in
    c.ask_in.ensures.given ∙ ap (find is_unasked) slice ∙ sym (ap (option_and_then unasked_of) found)

pub returns-clause-after : goal.returns-clause-after
returns-clause-after c =
    let all = c.args.allocations.now in
    let x : Allocation = get_or all c.in_ok-index.index c.index-allocations-index.result in
    let is_there = ap (λ y. get_or all c.in_ok-index.index y) c.index-allocations-index.is in
    let waiting = first_back is_unasked requested x.waiting c.as_mut_slice.result.now c.ask_in.new.waiting c.as_mut_slice.ensures.value c.ask_in.ensures.after in
    put_there has_unasked requested_in all c.in_ok-index.index x (record x { waiting = _ }) (sym c.index_of.ensures ∙ c.in_ok-index.was) is_there (ap (λ l. record x { waiting = l }) waiting)
