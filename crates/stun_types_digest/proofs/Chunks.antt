-- Each byte can be processed on its own with the table.
use Rattle.std.specs.Prelude.{◌≡◌, ℕ, zero, suc, ◌+◌, ◌*◌, ◌/◌, ◌%◌, ◌^◌, ◌<◌, List, [], ◌∷◌, length}
use Rattle.std.proofs.Common.{refl, sym, ap, ◌∙◌, arith, get_or, take, drop}
use Rattle.std.proofs.lemmas.List.{take-append-drop}
use Rattle.std.proofs.lemmas.List.Sums.{fold-append}
use Rattle.std.specs.Int.{w32, from_le_bytes, to_le_bytes}
use Rattle.std.specs.Int.Bits.{bit_xor, xor_assoc, xor_shifted, xor_zero_r}
use Rattle.std.proofs.lemmas.Nat.{xor_comm, xor_lt, from_le_bytes-to_le_bytes_4}
use Rattle.stun_types_digest.specs.Crc.{text_polynomial, bit_steps, byte_step, register_after}
use Rattle.stun_types_digest.proofs.Register.{bit_steps-xor, bit_steps-add, bit_steps-scale, register_after_is}

-- In a register of n + 1 bytes, the lowest byte can be processed separately from the others.
pub low_byte_apart : (n w : ℕ) → bit_steps (8 * (n + 1)) w ≡ bit_xor (bit_steps (8 * (n + 1)) (w % 256)) (bit_steps (8 * n) (w / 256))
low_byte_apart n w =
    let parts : w ≡ w / 256 * 2 ^ 8 + w % 256 = omega arith in
    let small : w % 256 < 2 ^ 8 = omega arith in
    let bits : 8 * (n + 1) ≡ 8 + 8 * n = omega arith in
    ap (bit_steps (8 * (n + 1))) (parts ∙ sym (xor_shifted (w / 256) 8 (w % 256) small) ∙ xor_comm (w / 256 * 2 ^ 8) (w % 256))
    ∙ bit_steps-xor (8 * (n + 1)) (w % 256) (w / 256 * 2 ^ 8)
    ∙ ap (bit_xor (bit_steps (8 * (n + 1)) (w % 256)))
    (ap (λ k. bit_steps k (w / 256 * 2 ^ 8)) bits ∙ bit_steps-add 8 (8 * n) (w / 256 * 2 ^ 8) ∙ ap (bit_steps (8 * n)) (bit_steps-scale 8 (w / 256)))

-- The step for one byte, with the table.
pub byte_step_is : (c b : ℕ) → byte_step c b ≡ bit_xor (bit_steps (8 * (0 + 1)) (bit_xor c b % 256)) (bit_xor c b / 2 ^ 8)
unfolding bit_steps
byte_step_is c b = low_byte_apart 0 (bit_xor c b)

-- The first byte of a polynomial can be processed separately from the others.
first_apart : (n b rest : ℕ) → bit_steps (8 * (n + 1)) (bit_xor b (rest * 2 ^ 8)) ≡ bit_xor (bit_steps (8 * (n + 1)) b) (bit_steps (8 * n) rest)
first_apart n b rest =
    let bits : 8 * (n + 1) ≡ 8 + 8 * n = omega arith in
    bit_steps-xor (8 * (n + 1)) b (rest * 2 ^ 8)
    ∙ ap (bit_xor (bit_steps (8 * (n + 1)) b))
    (ap (λ k. bit_steps k (rest * 2 ^ 8)) bits ∙ bit_steps-add 8 (8 * n) (rest * 2 ^ 8) ∙ ap (bit_steps (8 * n)) (bit_steps-scale 8 rest))

-- The register that four bytes leave when n zero bytes follow them.
abbrev pub left_of : ℕ → List ℕ → ℕ
left_of n four = bit_steps (8 * (n + 4)) (text_polynomial four)

-- The four bytes from index i on.
abbrev pub four_at : ℕ → List ℕ → List ℕ
four_at i bs = get_or bs i 0 ∷ get_or bs (i + 1) 0 ∷ get_or bs (i + 2) 0 ∷ get_or bs (i + 3) 0 ∷ []

-- Four bytes can be processed separately.
pub four_apart : (n : ℕ) (bs : List ℕ) → length bs ≡ 4 → left_of n bs
    ≡ bit_xor (bit_xor (bit_steps (8 * (n + 3 + 1)) (get_or bs 0 0)) (bit_steps (8 * (n + 2 + 1)) (get_or bs 1 0)))
    (bit_xor (bit_steps (8 * (n + 1 + 1)) (get_or bs 2 0)) (bit_steps (8 * (n + 1)) (get_or bs 3 0)))
four_apart n (a ∷ b ∷ c ∷ d ∷ []) long =
    let bits4 : n + 4 ≡ n + 3 + 1 = omega arith in
    let bits3 : n + 3 ≡ n + 2 + 1 = omega arith in
    let bits2 : n + 2 ≡ n + 1 + 1 = omega arith in
    let from_d : ℕ = text_polynomial (d ∷ []) in
    let from_c : ℕ = text_polynomial (c ∷ d ∷ []) in
    let from_b : ℕ = text_polynomial (b ∷ c ∷ d ∷ []) in
    let last : from_d ≡ d = xor_zero_r d in
    ap (λ k. bit_steps (8 * k) (bit_xor a (from_b * 2 ^ 8))) bits4
    ∙ first_apart (n + 3) a from_b
    ∙ ap (bit_xor (bit_steps (8 * (n + 3 + 1)) a))
    (ap (λ k. bit_steps (8 * k) from_b) bits3 ∙ first_apart (n + 2) b from_c
    ∙ ap (bit_xor (bit_steps (8 * (n + 2 + 1)) b))
    (ap (λ k. bit_steps (8 * k) from_c) bits2 ∙ first_apart (n + 1) c from_d
    ∙ ap (λ x. bit_xor (bit_steps (8 * (n + 1 + 1)) c) (bit_steps (8 * (n + 1)) x)) last))
    ∙ sym (xor_assoc (bit_steps (8 * (n + 3 + 1)) a) (bit_steps (8 * (n + 2 + 1)) b) (bit_xor (bit_steps (8 * (n + 1 + 1)) c) (bit_steps (8 * (n + 1)) d)))
four_apart n bs long = absurd (omega arith)

-- The number that bytes encode, the lowest byte first. It is their polynomial.
abbrev number_of : List ℕ → ℕ
number_of [] = 0
number_of (b ∷ bs) = b + 256 * number_of bs

text_polynomial_is : (bs : List ℕ) → ((i : ℕ) → get_or bs i 0 < 256) → text_polynomial bs ≡ number_of bs
text_polynomial_is [] small = refl
text_polynomial_is (b ∷ bs) small =
    xor_comm b (text_polynomial bs * 2 ^ 8) ∙ xor_shifted (text_polynomial bs) 8 b (small 0)
    ∙ ap (λ x. x * 2 ^ 8 + b) (text_polynomial_is bs (λ i. small (suc i))) ∙ omega arith

number_of_four : (bs : List ℕ) → length bs ≡ 4 → number_of bs ≡ from_le_bytes w32 bs
number_of_four (a ∷ b ∷ c ∷ d ∷ []) long = omega arith
number_of_four bs long = absurd (omega arith)

polynomial_of_four : (bs : List ℕ) → length bs ≡ 4 → ((i : ℕ) → get_or bs i 0 < 256) → text_polynomial bs ≡ from_le_bytes w32 bs
polynomial_of_four bs long small = text_polynomial_is bs small ∙ number_of_four bs long

byte_at_most : (n i : ℕ) → get_or (to_le_bytes w32 n) i 0 < 256
byte_at_most n zero = omega arith
byte_at_most n (suc zero) = omega arith
byte_at_most n (suc (suc zero)) = omega arith
byte_at_most n (suc (suc (suc zero))) = omega arith
byte_at_most n (suc (suc (suc (suc i)))) = omega arith

-- Let n be the number that four bytes encode. The polynomial of the bytes of n xor c is the register c added
-- to the polynomial of the four bytes.
pub polynomial_of_sum : (c n : ℕ) (bs : List ℕ) → length bs ≡ 4 → ((i : ℕ) → get_or bs i 0 < 256) → c < 2 ^ 32 → n < 2 ^ 32 → n ≡ from_le_bytes w32 bs
    → text_polynomial (to_le_bytes w32 (bit_xor n c)) ≡ bit_xor c (text_polynomial bs)
polynomial_of_sum c n bs long small c_fits fits is =
    polynomial_of_four (to_le_bytes w32 (bit_xor n c)) refl (byte_at_most (bit_xor n c))
    ∙ from_le_bytes-to_le_bytes_4 (bit_xor n c) (xor_lt 32 n c fits c_fits)
    ∙ xor_comm n c ∙ ap (bit_xor c) (is ∙ sym (polynomial_of_four bs long small))

zero_xor : (x : ℕ) → bit_xor 0 x ≡ x
zero_xor x = xor_comm 0 x ∙ xor_zero_r x

-- The register added to the first four bytes can be processed separately from the bytes after them.
first_four : (c a b d e : ℕ) (more : List ℕ) → register_after c (a ∷ b ∷ d ∷ e ∷ more)
    ≡ bit_xor (register_after 0 more) (bit_steps (8 * (length more + 4)) (bit_xor c (text_polynomial (a ∷ b ∷ d ∷ e ∷ []))))
first_four c a b d e more =
    let n : ℕ = length more in
    let four : List ℕ = a ∷ b ∷ d ∷ e ∷ [] in
    let mixed : ℕ = bit_xor c (text_polynomial four) in
    let there : ℕ = register_after c four in
    let bits : 8 * (n + 4) ≡ 8 * 4 + 8 * n = omega arith in
    let back : bit_steps (8 * n) (text_polynomial more) ≡ register_after 0 more =
    sym (register_after_is more 0 ∙ ap (bit_steps (8 * n)) (zero_xor (text_polynomial more))) in
    let prefix : bit_steps (8 * n) there ≡ bit_steps (8 * (n + 4)) mixed =
    ap (bit_steps (8 * n)) (register_after_is four c) ∙ sym (ap (λ k. bit_steps k mixed) bits ∙ bit_steps-add (8 * 4) (8 * n) mixed) in
    register_after_is more there ∙ bit_steps-xor (8 * n) there (text_polynomial more)
    ∙ xor_comm (bit_steps (8 * n) there) (bit_steps (8 * n) (text_polynomial more))
    ∙ ap (λ x. bit_xor x (bit_steps (8 * n) there)) back ∙ ap (bit_xor (register_after 0 more)) prefix

-- The first four bytes can be processed separately from the bytes after them, if the register is 0.
four_more : (a b d e : ℕ) (more : List ℕ) → register_after 0 (a ∷ b ∷ d ∷ e ∷ more) ≡ bit_xor (register_after 0 more) (left_of (length more) (a ∷ b ∷ d ∷ e ∷ []))
four_more a b d e more =
    first_four 0 a b d e more ∙ ap (λ x. bit_xor (register_after 0 more) (bit_steps (8 * (length more + 4)) x)) (zero_xor (text_polynomial (a ∷ b ∷ d ∷ e ∷ [])))

last_four : (a b d e : ℕ) → register_after 0 (a ∷ b ∷ d ∷ e ∷ []) ≡ left_of 0 (a ∷ b ∷ d ∷ e ∷ [])
last_four a b d e = four_more a b d e [] ∙ zero_xor (left_of 0 (a ∷ b ∷ d ∷ e ∷ []))

pub four_at_once : (c : ℕ) (bs : List ℕ) → length bs ≡ 4 → register_after c bs ≡ bit_steps (8 * (0 + 4)) (bit_xor c (text_polynomial bs))
four_at_once c (a ∷ b ∷ d ∷ e ∷ []) long = first_four c a b d e [] ∙ zero_xor (bit_steps (8 * (0 + 4)) (bit_xor c (text_polynomial (a ∷ b ∷ d ∷ e ∷ []))))
four_at_once c bs long = absurd (omega arith)

pub eight_at_once : (c : ℕ) (bs : List ℕ) → length bs ≡ 8
    → register_after c bs ≡ bit_xor (left_of 0 (four_at 4 bs)) (bit_steps (8 * (4 + 4)) (bit_xor c (text_polynomial (four_at 0 bs))))
eight_at_once c (a ∷ b ∷ d ∷ e ∷ f ∷ g ∷ h ∷ i ∷ []) long =
    let first : ℕ = bit_steps (8 * (4 + 4)) (bit_xor c (text_polynomial (a ∷ b ∷ d ∷ e ∷ []))) in
    first_four c a b d e (f ∷ g ∷ h ∷ i ∷ []) ∙ ap (λ x. bit_xor x first) (last_four f g h i)
eight_at_once c bs long = absurd (omega arith)

pub sixteen_at_once : (c : ℕ) (bs : List ℕ) → length bs ≡ 16
    → register_after c bs
    ≡ bit_xor (bit_xor (bit_xor (left_of 0 (four_at 12 bs)) (left_of 4 (four_at 8 bs))) (left_of 8 (four_at 4 bs))) (bit_steps (8 * (12 + 4)) (bit_xor c (text_polynomial (four_at 0 bs))))
sixteen_at_once c (a ∷ b ∷ d ∷ e ∷ f ∷ g ∷ h ∷ i ∷ j ∷ k ∷ l ∷ m ∷ n ∷ o ∷ p ∷ q ∷ []) long =
    let first : ℕ = bit_steps (8 * (12 + 4)) (bit_xor c (text_polynomial (a ∷ b ∷ d ∷ e ∷ []))) in
    let second : ℕ = left_of 8 (f ∷ g ∷ h ∷ i ∷ []) in
    let third : ℕ = left_of 4 (j ∷ k ∷ l ∷ m ∷ []) in
    first_four c a b d e (f ∷ g ∷ h ∷ i ∷ j ∷ k ∷ l ∷ m ∷ n ∷ o ∷ p ∷ q ∷ [])
    ∙ ap (λ x. bit_xor x first) (four_more f g h i (j ∷ k ∷ l ∷ m ∷ n ∷ o ∷ p ∷ q ∷ [])
    ∙ ap (λ x. bit_xor x second) (four_more j k l m (n ∷ o ∷ p ∷ q ∷ []) ∙ ap (λ x. bit_xor x third) (last_four n o p q)))
sixteen_at_once c bs long = absurd (omega arith)

-- Processing the first n bytes and then the others gives the register after all of them.
pub register_after-parts : (c n : ℕ) (bs : List ℕ) → register_after (register_after c (take n bs)) (drop n bs) ≡ register_after c bs
register_after-parts c n bs = sym (fold-append byte_step c (take n bs) (drop n bs)) ∙ ap (register_after c) (take-append-drop n bs)
