use Rattle.std.proofs.Common.{ap, ◌∙◌}
use Rattle.std.proofs.lemmas.List.{take_all}
use Rattle.turn_client_proto_connection.proofs.Earliest.{earliest, earliest_is}
use Rattle.turn_client_proto_connection.proofs.expire.earliest.Goals as goal

pub returns : goal.returns
returns c =
    let all = take_all c.loop-allocation.allocation-index c.args.allocations.now c.loop-allocation-test.false in
    earliest_is c.args.wait c.args.allocations.now c.loop-allocation.next
    (c.loop-allocation.invariant ∙ ap (earliest c.args.wait) all)
