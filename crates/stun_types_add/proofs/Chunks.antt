-- The chunks of which the HMAC of a message with a changed length field is computed.
use Rattle.std.proofs.Common.{◌≡◌, ℕ, ◌≤◌, List, [], ◌∷◌, ◌++◌, length, drop, get_or, refl, arith}
use Rattle.std.proofs.lemmas.List.{append-nil}
use Rattle.byteorder.specs.Endian.{big_bytes}
use Rattle.stun_types_integrity.specs.Wire.Covered.{with_length}

-- The type, the new length, the bytes after them and an empty chunk are the message with the length field
-- changed.
pub decoded_head : (bytes head following : List ℕ) (n : ℕ) → 20 ≤ length bytes → head ≡ get_or bytes 0 0 ∷ get_or bytes 1 0 ∷ big_bytes 2 n → following ≡ drop 4 bytes
    → head ++ following ++ [] ≡ with_length bytes n
unfolding with_length
decoded_head (a ∷ b ∷ c ∷ d ∷ bytes) head following n long head-is following-is = rw (head-is, following-is, append-nil bytes) refl
decoded_head bytes head following n long head-is following-is = absurd (omega arith)
