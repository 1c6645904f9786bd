use Rattle.std.proofs.Common.{length}
use Rattle.stun_inspect.proofs.stream.push_stream.Given as goal

-- The bytes that are left get fewer.
abbrev pub decreases-frames : goal.decreases-frames
decreases-frames l = length l.rest
