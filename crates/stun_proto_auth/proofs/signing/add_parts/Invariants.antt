use Rattle.std.proofs.Common.{drop}
use Rattle.stun_proto_auth.proofs.Making.{IsUnderWay}
use Rattle.stun_proto_auth.proofs.signing.add_parts.Given as goal

-- The parts before the index were added, and those from the index on are accepted.
abbrev pub invariant-loop-part : goal.invariant-loop-part
invariant-loop-part g l = IsUnderWay l.fn.parts (drop l.part-index l.fn.parts) (g.W.MessageWrite.draft l.fn.writer) (g.W.MessageWrite.draft l.writer)
