use Rattle.std.proofs.Common.{◌≡◌, ◌++◌, map, take, drop, bit_xor}
use Rattle.stun_types_digest.proofs.hmac.padded.Given as goal

abbrev pub invariant-loop-byte : goal.invariant-loop-byte
invariant-loop-byte g l = l.byte-items ≡ map (λ b. bit_xor b l.pad) (take l.byte-index l.block) ++ drop l.byte-index l.block
