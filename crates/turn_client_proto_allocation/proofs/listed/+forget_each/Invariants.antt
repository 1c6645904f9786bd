use Rattle.std.proofs.Common.{length}
use Rattle.turn_client_proto_allocation.proofs.listed.+forget_each.Given as goal

abbrev pub decreases-forget_each : goal.decreases-forget_each
decreases-forget_each l = length l.allocations.now
