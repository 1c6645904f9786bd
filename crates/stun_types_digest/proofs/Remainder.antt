-- The register after a text is the remainder, and the remainder is unique.
use Rattle.std.specs.Prelude.{◌≡◌, ℕ, zero, suc, ◌+◌, ◌*◌, ◌/◌, ◌%◌, ◌^◌, ◌<◌, List, [], ◌∷◌, length, Bool, true, false, nat_eq, if◌then◌else◌, All}
use Rattle.std.proofs.Common.{refl, sym, ap, ◌∙◌, arith, get_or, lit<, add-zero, subst, inl, inr}
use Rattle.std.proofs.lemmas.Bool.{cases_lt}
use Rattle.std.proofs.lemmas.List.{get_or_past}
use Rattle.std.proofs.lemmas.Bool.Decides.{nat_tests}
use Rattle.std.specs.Int.Bits.{bit_xor, xor_assoc, xor_self, xor_zero_l, xor_zero_r}
use Rattle.std.proofs.lemmas.Nat.{xor_comm, xor_block, xor_mod}
use Rattle.stun_types_digest.specs.Crc.{generator, times_generator, text_polynomial, IsRemainder, bit_step, bit_steps, register_of, crc32}
use Rattle.stun_types_digest.proofs.Register.{xor-scale, scale-scale, register_after_is, register_after_fits}

-- The generator if a bit, the highest coefficient of a polynomial, is 1, and 0 otherwise.
abbrev led : Bool → ℕ
led t = if t then generator else 0

-- An odd number is the generator plus what one step leaves, moved down by one power.
odd_parts : (c h : ℕ) → c ≡ h * 2 ^ 1 + 1 → c ≡ bit_xor generator (bit_xor h 0xedb88320 * 2 ^ 1)
odd_parts c h e =
    e ∙ ap (λ x. x * 2 ^ 1 + 1) (sym (xor_zero_r h) ∙ ap (bit_xor h) (sym (xor_self 0xedb88320)) ∙ sym (xor_assoc h 0xedb88320 0xedb88320) ∙ xor_comm (bit_xor h 0xedb88320) 0xedb88320)
    ∙ sym (xor_block 1 0xedb88320 (bit_xor h 0xedb88320) 1 0 (lit< tt) (lit< tt)) ∙ ap (bit_xor generator) (add-zero (bit_xor h 0xedb88320 * 2 ^ 1))

-- A polynomial is the generator if its highest coefficient is 1, plus what one step leaves, moved down by one
-- power.
pub parts : (c : ℕ) → c ≡ bit_xor (led (nat_eq (c % 2) 1)) (bit_step c * 2 ^ 1)
parts c =
    elim (nat_eq (c % 2) 1) as (λ b. nat_eq (c % 2) 1 ≡ b → c ≡ bit_xor (led b) ((if b then bit_xor (c / 2) 0xedb88320 else c / 2) * 2 ^ 1)) [
      | true ↦ λ e. odd_parts c (c / 2) (grind (arith, nat_tests))
      | false ↦ λ e. let half : c ≡ c / 2 * 2 ^ 1 = grind (arith, nat_tests) in half ∙ sym (xor_zero_l (c / 2 * 2 ^ 1))
    ] refl

-- The quotient with n coefficients, one for each step.
abbrev pub quotient_of : ℕ → ℕ → List Bool
quotient_of zero c = []
quotient_of (suc n) c = nat_eq (c % 2) 1 ∷ quotient_of n (bit_step c)

length-quotient_of : (n c : ℕ) → length (quotient_of n c) ≡ n
length-quotient_of zero c = refl
length-quotient_of (suc n) c = ap suc (length-quotient_of n (bit_step c))

-- The case of one more coefficient before the others.
pub led_more : (t x k r : ℕ) → bit_xor t (bit_xor x (r * 2 ^ k) * 2 ^ 1) ≡ bit_xor (bit_xor t (x * 2 ^ 1)) (r * 2 ^ suc k)
led_more t x k r =
    ap (bit_xor t) (sym (xor-scale 1 x (r * 2 ^ k)) ∙ ap (bit_xor (x * 2 ^ 1)) (scale-scale r k 1 (suc k) (omega arith)))
    ∙ sym (xor_assoc t (x * 2 ^ 1) (r * 2 ^ suc k))

divides_by_steps : (n c : ℕ) → c ≡ bit_xor (times_generator (quotient_of n c)) (bit_steps n c * 2 ^ n)
unfolding bit_steps
divides_by_steps zero c = omega arith
divides_by_steps (suc n) c =
    let q : ℕ = times_generator (quotient_of n (bit_step c)) in
    parts c ∙ ap (λ x. bit_xor (led (nat_eq (c % 2) 1)) (x * 2 ^ 1)) (divides_by_steps n (bit_step c))
    ∙ led_more (led (nat_eq (c % 2) 1)) q n (bit_steps n (bit_step c))

pub register_of-IsRemainder : (text : List ℕ) → ((i : ℕ) → get_or text i 0 < 2 ^ 8) → IsRemainder text (register_of text)
register_of-IsRemainder text small =
    let whole : ℕ = bit_xor (text_polynomial text) 0xffffffff in
    let n : ℕ = 8 * length text in
    let same : register_of text ≡ bit_steps n whole = register_after_is text 0xffffffff ∙ ap (bit_steps n) (xor_comm 0xffffffff (text_polynomial text)) in
    record {
      quotient = quotient_of n whole;
      long = length-quotient_of n whole;
      fits = register_after_fits text 0xffffffff small (lit< tt);
      divides = divides_by_steps n whole ∙ ap (λ r. bit_xor (times_generator (quotient_of n whole)) (r * 2 ^ n)) (sym same);
    }

-- ---- there is no other

-- What is added to both sides of an equation cancels.
xor_cancel : (c x y : ℕ) → bit_xor c x ≡ bit_xor c y → x ≡ y
xor_cancel c x y e =
    sym (twice c x) ∙ ap (bit_xor c) e ∙ twice c y
  where
    twice : (c x : ℕ) → bit_xor c (bit_xor c x) ≡ x
    twice c x = sym (xor_assoc c c x) ∙ ap (λ z. bit_xor z x) (xor_self c) ∙ xor_zero_l x

-- The highest coefficient as a number.
abbrev bit_of : Bool → ℕ
bit_of t = if t then 1 else 0

bit_of_led : (t : Bool) → led t % 2 ^ 1 ≡ bit_of t
bit_of_led true = refl
bit_of_led false = refl

highest : (t : Bool) (x : ℕ) → bit_xor (led t) (x * 2 ^ 1) % 2 ^ 1 ≡ bit_of t
highest t x =
    let even : x * 2 ^ 1 % 2 ^ 1 ≡ 0 = omega arith in
    xor_mod (led t) (x * 2 ^ 1) 1 ∙ ap (bit_xor (led t % 2 ^ 1)) even ∙ xor_zero_r (led t % 2 ^ 1) ∙ bit_of_led t

same_bit : (s t : Bool) → bit_of s ≡ bit_of t → s ≡ t
same_bit true true e = refl
same_bit true false e = absurd (omega arith)
same_bit false true e = absurd (omega arith)
same_bit false false e = refl

-- If two quotients of equal length, times the generator, give the same polynomial with their remainders, the
-- remainders are equal.
same_left : (n : ℕ) (p q : List Bool) (a b : ℕ) → length p ≡ n → length q ≡ n
    → bit_xor (times_generator p) (a * 2 ^ n) ≡ bit_xor (times_generator q) (b * 2 ^ n) → a ≡ b
same_left zero [] [] a b hp hq e = omega arith
same_left zero [] (t ∷ ts) a b hp hq e = absurd (omega arith)
same_left zero (s ∷ ss) q a b hp hq e = absurd (omega arith)
same_left (suc n) [] q a b hp hq e = absurd (omega arith)
same_left (suc n) (s ∷ ss) [] a b hp hq e = absurd (omega arith)
same_left (suc n) (s ∷ ss) (t ∷ ts) a b hp hq e =
    let x : ℕ = bit_xor (times_generator ss) (a * 2 ^ n) in
    let y : ℕ = bit_xor (times_generator ts) (b * 2 ^ n) in
    let both : bit_xor (led s) (x * 2 ^ 1) ≡ bit_xor (led t) (y * 2 ^ 1) =
    led_more (led s) (times_generator ss) n a ∙ e ∙ sym (led_more (led t) (times_generator ts) n b) in
    let first : s ≡ t = same_bit s t (sym (highest s x) ∙ ap (λ z. z % 2 ^ 1) both ∙ highest t y) in
    let rest : x * 2 ^ 1 ≡ y * 2 ^ 1 = xor_cancel (led s) (x * 2 ^ 1) (y * 2 ^ 1) (both ∙ ap (λ z. bit_xor (led z) (y * 2 ^ 1)) (sym first)) in
    let halves : x ≡ y = omega arith in
    same_left n ss ts a b (omega arith) (omega arith) halves

pub remainder_unique : (text : List ℕ) (a b : ℕ) → IsRemainder text a → IsRemainder text b → a ≡ b
remainder_unique text a b ha hb = same_left (8 * length text) ha.quotient hb.quotient a b ha.long hb.long (sym ha.divides ∙ hb.divides)

-- ---- as the definition of the CRC says it

pub crc32_remainder : (text : List ℕ) → All (λ byte. byte < 2 ^ 8) text → IsRemainder text (bit_xor (crc32 text) 0xffffffff)
unfolding crc32
crc32_remainder text small =
    let back : register_of text ≡ bit_xor (bit_xor (register_of text) 0xffffffff) 0xffffffff =
    sym (xor_assoc (register_of text) 0xffffffff 0xffffffff ∙ ap (bit_xor (register_of text)) (xor_self 0xffffffff) ∙ xor_zero_r (register_of text)) in
    subst (λ (r : ℕ). IsRemainder text r) back (register_of-IsRemainder text (each_fits text small))
  where
    each_fits : (text : List ℕ) → All (λ byte. byte < 2 ^ 8) text → (i : ℕ) → get_or text i 0 < 2 ^ 8
    each_fits text small i = elim (cases_lt i (length text)) [
      | inl within ↦ small i 0 within
      | inr past ↦ rw (get_or_past text i 0 past) (lit< tt)
    ]
