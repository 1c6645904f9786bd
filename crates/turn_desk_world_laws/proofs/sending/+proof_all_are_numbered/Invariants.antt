use Rattle.std.proofs.Common.{length}
use Rattle.turn_desk_world_laws.proofs.sending.+proof_all_are_numbered.Given as goal

abbrev pub decreases-proof_all_are_numbered : goal.decreases-proof_all_are_numbered
decreases-proof_all_are_numbered l = length l.channels.now
