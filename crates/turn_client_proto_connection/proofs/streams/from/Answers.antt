use Rattle.std.proofs.Common.{ap, sym, ◌∙◌}
use Rattle.std.specs.Option.{option_and_then}
use Rattle.turn_client_proto_allocation.proofs.Changes.{found_at}
use Rattle.turn_client_proto_connection.specs.Sockets.{has_from}
use Rattle.turn_client_proto_connection.specs.Streams.{from_in}
use Rattle.turn_client_proto_connection.proofs.streams.from.Goals as goal

pub returns : goal.returns
returns c =
    c.from_in.ensures
    ∙ sym (ap (option_and_then (from_in c.args.here)) (found_at (has_from c.args.here) c.args.allocations.now c.in_ok-index.index c.index-allocations-index.result (sym c.index_from.ensures ∙ c.in_ok-index.was) c.index-allocations-index.is))
