-- Xoring bytes, and xoring them again.
use Rattle.std.proofs.Common.{◌≡◌, ℕ, zero, suc, ◌+◌, ◌/◌, ◌%◌, ◌<◌, ◌≤◌, List, [], ◌∷◌, ◌++◌, length, bit_xor, take, drop, slice_set, slice_index, refl, ap, ◌∙◌, arith}
use Rattle.std.specs.Int.Bits.{xor_self, xor_assoc, xor_zero_r}
use Rattle.std.proofs.lemmas.Nat.{xor_shr, xor_mod}
use Rattle.byteorder.specs.Endian.{big_bytes}
use Rattle.stun_types_attributes.specs.Xor.{xor_bytes, octets_mask, xored}

xor_again : (b m : ℕ) → bit_xor (bit_xor b m) m ≡ b
xor_again b m = xor_assoc b m m ∙ ap (λ x. bit_xor b x) (xor_self m) ∙ xor_zero_r b

-- Xoring bytes twice with a mask of at least their length gives them again.
pub xor_bytes_again : (bytes mask : List ℕ) → length bytes ≤ length mask → xor_bytes (xor_bytes bytes mask) mask ≡ bytes
xor_bytes_again [] mask enough = refl
xor_bytes_again (b ∷ bytes) [] enough = absurd (omega arith)
xor_bytes_again (b ∷ bytes) (m ∷ mask) enough =
    ap (λ x. x ∷ xor_bytes (xor_bytes bytes mask) mask) (xor_again b m) ∙ ap (λ (l : List ℕ). b ∷ l) (xor_bytes_again bytes mask (omega arith))

-- The bytes of a port that is xored with the top 16 bits of the magic cookie.
pub port_xored : (port : ℕ) → big_bytes 2 (bit_xor port 0x2112) ≡ xor_bytes (big_bytes 2 port) (0x21 ∷ 0x12 ∷ [])
port_xored port =
    let shifted : bit_xor port 0x2112 / 256 ≡ bit_xor (port / 256) 0x21 = xor_shr port 0x2112 8 in
    let high : bit_xor port 0x2112 / 256 % 256 ≡ bit_xor (port / 256 % 256) 0x21 = ap (λ x. x % 256) shifted ∙ xor_mod (port / 256) 0x21 8 in
    let low : bit_xor port 0x2112 % 256 ≡ bit_xor (port % 256) 0x12 = xor_mod port 0x2112 8 in
    ap (λ x. x ∷ (bit_xor port 0x2112 % 256) ∷ []) high ∙ ap (λ x. bit_xor (port / 256 % 256) 0x21 ∷ x ∷ []) low

-- Xoring the byte at index i extends the xored prefix by one byte.
one_more : (i : ℕ) (bytes mask : List ℕ) → i < length bytes → length bytes ≤ length mask
    → slice_set (xor_bytes (take i bytes) mask ++ drop i bytes) i (bit_xor (slice_index (xor_bytes (take i bytes) mask ++ drop i bytes) i) (slice_index mask i))
    ≡ xor_bytes (take (suc i) bytes) mask ++ drop (suc i) bytes
one_more i [] mask below enough = absurd (omega arith)
one_more i (b ∷ bytes) [] below enough = absurd (omega arith)
one_more zero (b ∷ bytes) (m ∷ mask) below enough = refl
one_more (suc i) (b ∷ bytes) (m ∷ mask) below enough =
    ap (λ (l : List ℕ). bit_xor b m ∷ l) (one_more i bytes mask (omega arith) (omega arith))

pub xor_one_more : (i : ℕ) (bytes mask now : List ℕ) → i < length bytes → length bytes ≤ length mask → now ≡ xor_bytes (take i bytes) mask ++ drop i bytes
    → slice_set now i (bit_xor (slice_index now i) (slice_index mask i)) ≡ xor_bytes (take (i + 1) bytes) mask ++ drop (i + 1) bytes
xor_one_more i bytes mask now below enough e =
    let next : i + 1 ≡ suc i = omega arith in
    rw (e, next) (one_more i bytes mask below enough)

-- Xoring an encoded address twice for one transaction ID gives it again.
pub xored_again : (number : ℕ) (value : List ℕ) → length value ≤ 20 → xored number (xored number value) ≡ value
unfolding octets_mask
xored_again number value short = xor_bytes_again value (0 ∷ 0 ∷ 0x21 ∷ 0x12 ∷ octets_mask number) short
