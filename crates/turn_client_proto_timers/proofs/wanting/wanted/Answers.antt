use Rattle.std.proofs.Common.{sym, ap, ◌∙◌}
use Rattle.std.specs.Option.{option_and_then}
use Rattle.turn_client_proto_allocation.proofs.Changes.{found_at}
use Rattle.turn_client_proto_timers.specs.Wanting.{want, wants}
use Rattle.turn_client_proto_timers.proofs.wanting.wanted.Goals as goal

pub returns : goal.returns
returns c =
    let found = found_at (wants c.args.now) c.args.allocations.now c.in_ok-index.index c.index-allocations-index.result (sym c.index_wanting.ensures ∙ c.in_ok-index.was) c.index-allocations-index.is in
    c.want_of.ensures ∙ ap (option_and_then (want c.args.now)) (sym found)
