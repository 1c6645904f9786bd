use Rattle.std.proofs.Common.{length}
use Rattle.stun_inspect.proofs.stream.stream_object.Given as goal

-- The bytes that are left get fewer.
abbrev pub decreases-frames : goal.decreases-frames
decreases-frames l = length l.rest
