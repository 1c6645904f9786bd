use Rattle.std.proofs.Common.{length}
use Rattle.stun_types_attributes.proofs.Wire.Scan.{Continues}
use Rattle.stun_types_message.specs.ShapeStages.{stage_rank}
use Rattle.stun_types_message.proofs.parsed.scan.Given as goal

-- What is visible in the rest, and its errors, are those of the message from here on.
abbrev pub invariant-loop-rest : goal.invariant-loop-rest
invariant-loop-rest l = Continues (stage_rank l.stage) l.rest l.fn.bytes

abbrev pub decreases-loop-rest : goal.decreases-loop-rest
decreases-loop-rest l = length l.rest
