-- The chunks of which the CRC-32 of a message with a changed length field is computed.
use Rattle.std.proofs.Common.{◌≡◌, ℕ, ◌≤◌, List, ◌∷◌, ◌++◌, length, drop, get_or, refl, arith}
use Rattle.byteorder.specs.Endian.{big_bytes}
use Rattle.stun_types_integrity.specs.Wire.Covered.{with_length}

-- The type, the new length and the bytes after them are the message with the length field changed.
pub decoded_in_chunks : (bytes head tail : List ℕ) (n : ℕ) → 20 ≤ length bytes → head ≡ get_or bytes 0 0 ∷ get_or bytes 1 0 ∷ big_bytes 2 n → tail ≡ drop 4 bytes
    → head ++ tail ≡ with_length bytes n
unfolding with_length
decoded_in_chunks (a ∷ b ∷ c ∷ d ∷ bytes) head tail n long head-is tail-is = rw (head-is, tail-is) refl
decoded_in_chunks bytes head tail n long head-is tail-is = absurd (omega arith)
