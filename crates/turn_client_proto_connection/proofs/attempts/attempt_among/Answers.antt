use Rattle.std.proofs.Common.{ap, get_or, sym, ◌∙◌}
use Rattle.std.specs.Option.{option_and_then}
use Rattle.turn_client_proto_allocation.proofs.Changes.{found_at}
use Rattle.turn_client_proto_allocation.specs.declared.connection.Waiting.{Waiting}
use Rattle.turn_client_proto_connection.specs.Sockets.{is_socket_for}
use Rattle.turn_client_proto_connection.proofs.attempts.attempt_among.Goals as goal

pub returns : goal.returns
returns c =
    let x : Waiting = get_or c.args.waiting.now c.in_ok-index.index c.index-waiting-index.result in
    let is_there = ap (λ y. get_or c.args.waiting.now c.in_ok-index.index y) c.index-waiting-index.is in
    sym (ap (option_and_then (λ (w : Waiting). w.attempt)) (found_at (is_socket_for c.args.connection c.args.peer) c.args.waiting.now c.in_ok-index.index x (sym c.index_among.ensures ∙ c.in_ok-index.was) is_there))
