use Rattle.std.proofs.Common.{List, ap, sym, ◌∙◌}
use Rattle.turn_client_proto_allocation.proofs.Lent.{first_back}
use Rattle.turn_client_proto_connection.proofs.Unasked.{none_requested}
use Rattle.turn_client_proto_allocation.specs.declared.allocation.Allocation.{Allocation}
use Rattle.turn_client_proto_connection.specs.Waiting.{requested_in, has_unasked, unasked}
use Rattle.turn_client_proto_timers.proofs.Polls.{always_none}
use Rattle.turn_client_proto_timers.proofs.polling.ask_socket.Goals as goal

pub returns-in_err-first-clause-none : goal.returns-in_err-first-clause-none
returns-in_err-first-clause-none c =
    let old = c.args.protocol.now in
    let none = ap unasked (sym c.as_mut_slice.ensures.value) ∙ sym c.ask_first.ensures.given ∙ c.in_err-first.was in
    let same = first_back has_unasked requested_in old.allocations c.as_mut_slice.result.now c.ask_first.new.allocations c.as_mut_slice.ensures.value c.ask_first.ensures.after ∙ none_requested old.allocations none in
    always_none c.from_residual.result (ap (λ (l : List Allocation). record old { allocations = l }) same)
