use Rattle.std.proofs.Common.{◌≡◌, take, length}
use Rattle.stun_types_digest.specs.Crc.{register_after}
use Rattle.stun_types_digest.proofs.crc.after_bytes.Given as goal

-- The register reached so far gives, after the remaining bytes, the register after all bytes.
abbrev pub invariant-loop-sixteen : goal.invariant-loop-sixteen
invariant-loop-sixteen l = register_after l.reached l.left ≡ register_after l.fn.register l.fn.bytes

abbrev pub decreases-loop-sixteen : goal.decreases-loop-sixteen
decreases-loop-sixteen l = length l.left

abbrev pub invariant-loop-byte : goal.invariant-loop-byte
invariant-loop-byte l = l.reached ≡ register_after l.initial.reached (take l.byte-index l.byte-items)
