use Rattle.std.proofs.Common.{length}
use Rattle.stun_types_auth_attributes.proofs.password_algorithms.+write_entries.Given as goal

abbrev pub decreases-write_entries : goal.decreases-write_entries
decreases-write_entries l = length l.algorithms.now
