use Rattle.std.proofs.Common.{ap, get_or, sym, ◌∙◌}
use Rattle.std.specs.Option.{option_and_then}
use Rattle.turn_client_proto_allocation.proofs.Changes.{found_at}
use Rattle.turn_client_proto_allocation.specs.declared.allocation.Allocation.{Allocation}
use Rattle.turn_client_proto_connection.specs.Attempts.{attempt_among, attempt_in}
use Rattle.turn_client_proto_connection.specs.Sockets.{awaits_socket}
use Rattle.turn_client_proto_connection.proofs.attempts.attempt_of.Goals as goal

pub returns : goal.returns
returns c =
    let x : Allocation = get_or c.args.allocations.now c.in_ok-index.index c.index-allocations-index.result in
    let is_there = ap (λ y. get_or c.args.allocations.now c.in_ok-index.index y) c.index-allocations-index.is in
    c.attempt_among.ensures
    ∙ ap (attempt_among c.args.connection c.args.peer) c.as_slice.ensures
    ∙ sym (ap (option_and_then (attempt_in c.args.connection c.args.peer)) (found_at (awaits_socket c.args.connection c.args.peer) c.args.allocations.now c.in_ok-index.index x (sym c.index_of.ensures ∙ c.in_ok-index.was) is_there))
