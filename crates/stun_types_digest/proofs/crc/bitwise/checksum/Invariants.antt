use Rattle.std.proofs.Common.{◌≡◌, take}
use Rattle.stun_types_digest.specs.Crc.{register_of}
use Rattle.stun_types_digest.proofs.crc.bitwise.checksum.Given as goal

abbrev pub invariant-loop-byte : goal.invariant-loop-byte
invariant-loop-byte l = l.register ≡ register_of (take l.byte-index l.text)
