use Rattle.std.proofs.Common.{drop}
use Rattle.stun_proto_auth.proofs.Reaching.{IsReached}
use Rattle.stun_proto_auth.proofs.room.parts_fit.Given as goal

-- The parts before the index fit, and take `size` bytes; those from the index on decide.
abbrev pub invariant-loop-part : goal.invariant-loop-part
invariant-loop-part g l = IsReached (g.W.MessageWrite.draft l.writer) l.fn.parts (drop l.part-index l.fn.parts) l.size
