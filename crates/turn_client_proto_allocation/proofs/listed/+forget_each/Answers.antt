use Rattle.std.proofs.Common.{sym, ◌∙◌}
use Rattle.turn_client_proto_allocation.proofs.Undoing.{forgotten}
use Rattle.turn_client_proto_allocation.proofs.listed.+forget_each.Goals as goal

pub returns : goal.returns
returns t c before refresh is =
    forgotten c.in-Some.first.now c.forget_refresh.new.self c.in-Some.others.now c.forget_each.new.allocations before refresh c.forget_refresh.ensures c.forget_each.ensures (sym c.in-Some.ensures.cases.0 ∙ is)
