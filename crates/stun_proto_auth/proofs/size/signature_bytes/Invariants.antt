use Rattle.std.proofs.Common.{drop}
use Rattle.stun_proto_auth.specs.Sizes.{size_of_signature}
use Rattle.stun_proto_auth.proofs.Counting.{IsCounted}
use Rattle.stun_proto_auth.proofs.size.signature_bytes.Given as goal

-- The parts before the index are within their limits, and are counted.
abbrev pub invariant-loop-part : goal.invariant-loop-part
invariant-loop-part l = IsCounted l.fn.parts (drop l.part-index l.fn.parts) (size_of_signature l.fn.algorithm) l.total
