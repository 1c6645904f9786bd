use Rattle.std.proofs.Common.{◌≡◌, bit_xor}
use Rattle.stun_types_digest.specs.Crc.{bit_steps}
use Rattle.stun_types_digest.proofs.crc.bitwise.after_byte.Given as goal

abbrev pub invariant-loop-bit : goal.invariant-loop-bit
invariant-loop-bit l = l.mixed ≡ bit_steps l._bit (bit_xor l.register l.byte)
