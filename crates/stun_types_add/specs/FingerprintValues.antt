-- The value of a FINGERPRINT as a number (RFC 8489, section 14.7).
use Rattle.std.specs.Prelude.{ℕ, List, bit_xor}
use Rattle.byteorder.specs.Endian.{big_bytes}
use Rattle.stun_types_integrity.specs.Digest.Crc.{crc32}
use Rattle.stun_types_integrity.specs.Wire.Registry.{fingerprint_mask}

-- A 32-bit number XOR 0x5354554E, as four bytes in big-endian order.
abbrev pub turned_bytes : ℕ → List ℕ
turned_bytes crc = big_bytes 4 (bit_xor crc fingerprint_mask)

-- The CRC-32 of a text as four bytes in big-endian order, before the XOR.
unfoldable pub crc_bytes : List ℕ → List ℕ
crc_bytes text = big_bytes 4 (crc32 text)
