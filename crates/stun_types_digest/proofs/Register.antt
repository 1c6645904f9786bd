-- The register is linear in its input, so a whole text can be processed at once.
use Rattle.std.specs.Prelude.{◌≡◌, ℕ, zero, suc, ◌+◌, ◌*◌, ◌/◌, ◌%◌, ◌^◌, ◌<◌, List, [], ◌∷◌, length, true, false, nat_eq, if◌then◌else◌}
use Rattle.std.proofs.Common.{refl, sym, ap, ◌∙◌, arith, add-zero, get_or, lit<, ◌⊎◌, inl, inr}
use Rattle.std.proofs.lemmas.Bool.{cases_lt}
use Rattle.std.proofs.Math.Nat.{mul_assoc}
use Rattle.std.specs.Int.Bits.{bit_xor, xor_assoc, xor_zero_r}
use Rattle.std.proofs.lemmas.Nat.{xor_comm, xor_block, xor_lt, xor_shr, xor_mod, pow-add, pow_pos}
use Rattle.stun_types_digest.specs.Crc.{text_polynomial, bit_step, bit_steps, byte_step, register_after}

-- ---- bit_xor

-- Multiplication by a power of 2 distributes over `bit_xor`.
pub xor-scale : (k x y : ℕ) → bit_xor (x * 2 ^ k) (y * 2 ^ k) ≡ bit_xor x y * 2 ^ k
xor-scale k x y = simp add-zero at (xor_block k x y 0 0 (pow_pos k) (pow_pos k))

-- Multiplying by two powers of 2 is multiplying by one.
pub scale-scale : (x n m k : ℕ) → k ≡ n + m → x * 2 ^ n * 2 ^ m ≡ x * 2 ^ k
scale-scale x n m k e = mul_assoc x (2 ^ n) (2 ^ m) ∙ ap (λ y. x * y) (sym (pow-add 2 n m)) ∙ ap (λ y. x * 2 ^ y) (sym e)

-- In a sum of four, the two middle terms can be swapped.
pub xor_middle : (a b c d : ℕ) → bit_xor (bit_xor a b) (bit_xor c d) ≡ bit_xor (bit_xor a c) (bit_xor b d)
xor_middle a b c d =
    xor_assoc a b (bit_xor c d) ∙ ap (bit_xor a) (sym (xor_assoc b c d) ∙ ap (λ x. bit_xor x d) (xor_comm b c) ∙ xor_assoc c b d)
    ∙ sym (xor_assoc a c (bit_xor b d))

-- ---- one bit

-- What a bit that is shifted out of the register subtracts from it.
abbrev pub taken : ℕ → ℕ
taken odd = if nat_eq odd 1 then 0xedb88320 else 0

bit_step_is : (c : ℕ) → bit_step c ≡ bit_xor (c / 2) (taken (c % 2))
bit_step_is c =
    elim (nat_eq (c % 2) 1) as (λ b. (if b then bit_xor (c / 2) 0xedb88320 else c / 2) ≡ bit_xor (c / 2) (if b then 0xedb88320 else 0)) [
      | true ↦ refl
      | false ↦ sym (xor_zero_r (c / 2))
    ]

-- A bit is 0 or 1.
bit_cases : (a : ℕ) → a < 2 → (a ≡ 0) ⊎ (a ≡ 1)
bit_cases a h =
    elim (cases_lt a 1) [
      | inl below ↦ inl (omega arith)
      | inr above ↦ inr (omega arith)
    ]

taken-xor : (a b : ℕ) → a < 2 → b < 2 → taken (bit_xor a b) ≡ bit_xor (taken a) (taken b)
taken-xor a b ha hb =
    elim (bit_cases a ha) [
      | inl a0 ↦ elim (bit_cases b hb) [
        | inl b0 ↦ rw (a0, b0) refl
        | inr b1 ↦ rw (a0, b1) refl
      ]
      | inr a1 ↦ elim (bit_cases b hb) [
        | inl b0 ↦ rw (a1, b0) refl
        | inr b1 ↦ rw (a1, b1) refl
      ]
    ]

pub bit_step-xor : (a b : ℕ) → bit_step (bit_xor a b) ≡ bit_xor (bit_step a) (bit_step b)
bit_step-xor a b =
    bit_step_is (bit_xor a b)
    ∙ ap (λ x. bit_xor x (taken (bit_xor a b % 2))) (xor_shr a b 1)
    ∙ ap (λ x. bit_xor (bit_xor (a / 2) (b / 2)) (taken x)) (xor_mod a b 1)
    ∙ ap (bit_xor (bit_xor (a / 2) (b / 2))) (taken-xor (a % 2) (b % 2) (omega arith) (omega arith))
    ∙ xor_middle (a / 2) (b / 2) (taken (a % 2)) (taken (b % 2))
    ∙ sym (ap (λ x. bit_xor x (bit_step b)) (bit_step_is a) ∙ ap (bit_xor (bit_xor (a / 2) (taken (a % 2)))) (bit_step_is b))

-- ---- several bits

pub bit_steps-xor : (n a b : ℕ) → bit_steps n (bit_xor a b) ≡ bit_xor (bit_steps n a) (bit_steps n b)
unfolding bit_steps
bit_steps-xor zero a b = refl
bit_steps-xor (suc n) a b = ap (bit_steps n) (bit_step-xor a b) ∙ bit_steps-xor n (bit_step a) (bit_step b)

pub bit_steps-add : (n m a : ℕ) → bit_steps (n + m) a ≡ bit_steps m (bit_steps n a)
unfolding bit_steps
bit_steps-add zero m a =
    let e : zero + m ≡ m = omega arith in
    ap (λ k. bit_steps k a) e
bit_steps-add (suc n) m a =
    let e : suc n + m ≡ suc (n + m) = omega arith in
    ap (λ k. bit_steps k a) e ∙ bit_steps-add n m (bit_step a)

pub more_steps : (n a : ℕ) → bit_steps (n + 1) a ≡ bit_step (bit_steps n a)
unfolding bit_steps
more_steps n a = bit_steps-add n 1 a

-- A step divides an even register by 2.
bit_step-even : (a : ℕ) → bit_step (a * 2) ≡ a
bit_step-even a =
    let even : a * 2 % 2 ≡ 0 = omega arith in
    let half : a * 2 / 2 ≡ a = omega arith in
    bit_step_is (a * 2) ∙ ap (λ x. bit_xor (a * 2 / 2) (taken x)) even ∙ xor_zero_r (a * 2 / 2) ∙ half

-- n steps divide a multiple of 2 ^ n by 2 ^ n.
pub bit_steps-scale : (n a : ℕ) → bit_steps n (a * 2 ^ n) ≡ a
unfolding bit_steps
bit_steps-scale zero a = omega arith
bit_steps-scale (suc n) a =
    let e : a * 2 ^ suc n ≡ a * 2 ^ n * 2 = sym (scale-scale a n 1 (suc n) (omega arith)) in
    ap (λ x. bit_steps n (bit_step x)) e ∙ ap (bit_steps n) (bit_step-even (a * 2 ^ n)) ∙ bit_steps-scale n a

-- ---- a text

-- Processing bytes one by one equals adding all of them to the register first and then taking all steps.
pub register_after_is : (bs : List ℕ) (c : ℕ) → register_after c bs ≡ bit_steps (8 * length bs) (bit_xor c (text_polynomial bs))
unfolding bit_steps
register_after_is [] c = sym (xor_zero_r c)
register_after_is (b ∷ bs) c =
    let rest : ℕ = text_polynomial bs in
    let wide : 8 * suc (length bs) ≡ 8 + 8 * length bs = omega arith in
    register_after_is bs (byte_step c b)
    ∙ ap (bit_steps (8 * length bs)) (ap (bit_xor (byte_step c b)) (sym (bit_steps-scale 8 rest)) ∙ sym (bit_steps-xor 8 (bit_xor c b) (rest * 2 ^ 8)) ∙ ap (bit_steps 8) (xor_assoc c b (rest * 2 ^ 8)))
    ∙ sym (ap (λ n. bit_steps n (bit_xor c (bit_xor b (rest * 2 ^ 8)))) wide ∙ bit_steps-add 8 (8 * length bs) (bit_xor c (bit_xor b (rest * 2 ^ 8))))

-- ---- the register's 32 bits

pub bit_step_fits : (c : ℕ) → c < 2 ^ 32 → bit_step c < 2 ^ 32
bit_step_fits c h =
    elim (nat_eq (c % 2) 1) as (λ b. (if b then bit_xor (c / 2) 0xedb88320 else c / 2) < 2 ^ 32) [
      | true ↦ xor_lt 32 (c / 2) 0xedb88320 (omega arith) (lit< tt)
      | false ↦ omega arith
    ]

pub bit_steps_fits : (n c : ℕ) → c < 2 ^ 32 → bit_steps n c < 2 ^ 32
unfolding bit_steps
bit_steps_fits zero c h = h
bit_steps_fits (suc n) c h = bit_steps_fits n (bit_step c) (bit_step_fits c h)

pub register_after_fits : (bs : List ℕ) (c : ℕ) → ((i : ℕ) → get_or bs i 0 < 2 ^ 8) → c < 2 ^ 32 → register_after c bs < 2 ^ 32
register_after_fits [] c small h = h
register_after_fits (b ∷ bs) c small h =
    register_after_fits bs (byte_step c b) (λ i. small (suc i)) (bit_steps_fits 8 (bit_xor c b) (xor_lt 32 c b h (omega (arith, small 0))))
