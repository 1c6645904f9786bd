-- Bits in which numbers differ.
use Rattle.std.proofs.Common.{◌≡◌, ◌↔◌, ℕ, ◌+◌, ◌*◌, ◌≤◌, bit_and, bit_or, bit_xor, ap, sym, ◌∙◌, subst, arith}
use Rattle.std.proofs.Math.Arith.{le-zero}
use Rattle.std.proofs.lemmas.Nat.{and_le_l, and_le_r, le_or_l, le_or_r}
use Rattle.std.specs.Int.Bits.{or_zero_l, xor_add_and, xor_self}

-- If neither has a bit set, then both are zero.
none_left : (a b : ℕ) → bit_or a b ≡ 0 → a ≡ 0
none_left a b h = le-zero (subst (λ n. a ≤ n) h (le_or_l a b))

none_right : (a b : ℕ) → bit_or a b ≡ 0 → b ≡ 0
none_right a b h = le-zero (subst (λ n. b ≤ n) h (le_or_r a b))

halves : (a b n : ℕ) → 0 + n * 2 ≡ a + b → n ≤ a → n ≤ b → a ≡ b
halves a b n sum left right = omega (arith)

-- If they differ in no bit, then they are equal.
equal : (a b : ℕ) → bit_xor a b ≡ 0 → a ≡ b
equal a b h = halves a b (bit_and a b) (subst (λ n. n + bit_and a b * 2 ≡ a + b) h (xor_add_and a b)) (and_le_l a b) (and_le_r a b)

none_set : (d a b : ℕ) → d ≡ 0 → a ≡ b → bit_or d (bit_xor a b) ≡ 0
none_set d a b zero same = ap (λ n. bit_or n (bit_xor a b)) zero ∙ or_zero_l (bit_xor a b) ∙ ap (bit_xor a) (sym same) ∙ xor_self a

-- `d` with the bits in which `a` and `b` differ is zero exactly if `d` is and these are equal.
pub differing : (d a b : ℕ) → (bit_or d (bit_xor a b) ≡ 0) ↔ ((d ≡ 0) × (a ≡ b))
differing d a b = (λ h. (none_left d (bit_xor a b) h, equal a b (none_right d (bit_xor a b) h)), λ h. none_set d a b h.0 h.1)
