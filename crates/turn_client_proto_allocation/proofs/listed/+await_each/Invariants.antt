use Rattle.std.proofs.Common.{length}
use Rattle.turn_client_proto_allocation.proofs.listed.+await_each.Given as goal

abbrev pub decreases-await_each : goal.decreases-await_each
decreases-await_each l = length l.allocations.now
