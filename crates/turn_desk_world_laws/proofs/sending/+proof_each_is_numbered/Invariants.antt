use Rattle.std.proofs.Common.{length}
use Rattle.turn_desk_world_laws.proofs.sending.+proof_each_is_numbered.Given as goal

abbrev pub decreases-proof_each_is_numbered : goal.decreases-proof_each_is_numbered
decreases-proof_each_is_numbered l = length l.allocations.now
