-- The CRC-32 of FINGERPRINT (RFC 8489, section 14.7): the remainder of a polynomial over GF(2).
--
-- A polynomial is represented by a number. Bit 0 is the coefficient of its highest power, because the lowest
-- bit of a byte comes first. So `* 2 ^ k` moves all coefficients down by k powers. Addition and subtraction
-- both are `bit_xor`.
use Rattle.std.specs.Prelude.{◌≡◌, ℕ, zero, suc, ◌-◌, ◌*◌, ◌/◌, ◌%◌, ◌^◌, ◌<◌, List, [], ◌∷◌, length, map, sum, fold, bit_xor, Bool, nat_eq, if◌then◌else◌}

-- The powers of x in the generator, as RFC 8489, section 14.7, writes it out.
abbrev pub generator_powers : List ℕ
generator_powers = 32 ∷ 26 ∷ 23 ∷ 22 ∷ 16 ∷ 12 ∷ 11 ∷ 10 ∷ 8 ∷ 7 ∷ 5 ∷ 4 ∷ 2 ∷ 1 ∷ 0 ∷ []

-- The generator, with 33 coefficients. Bit 0 is that of x ^ 32, and bit 32 is that of 1.
abbrev pub generator : ℕ
generator = sum (map (λ power. 2 ^ (32 - power)) generator_powers)

-- The product of the generator and the polynomial with these coefficients, the highest power first.
abbrev pub times_generator : List Bool → ℕ
times_generator [] = 0
times_generator (b ∷ bs) = bit_xor (if b then generator else 0) (times_generator bs * 2 ^ 1)

-- The polynomial of a text. Its first coefficient is the lowest bit of the first byte.
abbrev pub text_polynomial : List ℕ → ℕ
text_polynomial [] = 0
text_polynomial (b ∷ bs) = bit_xor b (text_polynomial bs * 2 ^ 8)

-- `left` is the remainder of a text. The dividend has the coefficients of the text followed by 32 zeros, with
-- 1 added to each of the first 32 coefficients. It equals a multiple of the generator plus the remainder. The
-- quotient has as many coefficients as the text has bits. The remainder is the last 32 coefficients.
pub record IsRemainder (text : List ℕ) (left : ℕ) : Type 0 where
  pub quotient : List Bool
  pub long : length quotient ≡ 8 * length text
  pub fits : left < 2 ^ 32
  pub divides : bit_xor (text_polynomial text) 0xffffffff
      ≡ bit_xor (times_generator quotient) (left * 2 ^ (8 * length text))

-- The register after one more bit. The highest coefficient is shifted out. If it was 1, the generator is
-- subtracted; its coefficients without the highest are `generator / 2`.
abbrev pub bit_step : ℕ → ℕ
bit_step register = if nat_eq (register % 2) 1 then bit_xor (register / 2) (generator / 2) else register / 2

-- The register after n more bits.
unfoldable pub bit_steps : ℕ → ℕ → ℕ
bit_steps zero register = register
bit_steps (suc n) register = bit_steps n (bit_step register)

-- The register after one more byte.
abbrev pub byte_step : ℕ → ℕ → ℕ
byte_step register byte = bit_steps 8 (bit_xor register byte)

-- The register after these bytes, starting from `register`.
abbrev pub register_after : ℕ → List ℕ → ℕ
register_after register bytes = fold byte_step register bytes

-- The register after a text.
abbrev pub register_of : List ℕ → ℕ
register_of text = register_after 0xffffffff text

-- The register is that after a text.
unfoldable pub IsAfter : ℕ → List ℕ → Type 0
IsAfter register text = register ≡ register_of text

-- The CRC-32 of a text: the remainder with each bit inverted.
unfoldable pub crc32 : List ℕ → ℕ
crc32 text = bit_xor (register_of text) 0xffffffff
