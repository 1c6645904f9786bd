-- Numbers and their bytes, the highest byte first.
use Rattle.std.proofs.Common.{◌≡◌, ℕ, zero, suc, ◌+◌, ◌*◌, ◌/◌, ◌^◌, ◌<◌, ltb, List, [], ◌∷◌, length, slice_index, refl, sym, ap, ◌∙◌, arith}
use Rattle.std.specs.List.{list_all}
use Rattle.std.specs.Int.{byte_at, bytes_high_first}
use Rattle.std.proofs.Math.Nat.{mod-lt}
use Rattle.std.proofs.lemmas.Bool.{and_parts, ltb-true}
use Rattle.std.proofs.lemmas.Nat.{div-mul-add}
use Rattle.std.proofs.lemmas.List.{append-nil}
use Rattle.byteorder.specs.Endian.{big_from}
use Rattle.byteorder.specs.Numbers.{big_from-cons, big_from-lt, big_number-reads_back, length-bytes_high_first}
use Rattle.stun_types_wire.specs.Headers.{AreBytes}

-- Each number in a list of bytes is below 256.
pub byte_below : (bytes : List ℕ) → AreBytes bytes → (i : ℕ) → slice_index bytes i < 256
byte_below [] h i = omega arith
byte_below (b ∷ bytes) h zero = ltb-true b 256 (and_parts (ltb b 256) (list_all (λ n. ltb n 256) bytes) h).0
byte_below (b ∷ bytes) h (suc i) = byte_below bytes (and_parts (ltb b 256) (list_all (λ n. ltb n 256) bytes) h).1 i

byte_at-lt : (k n : ℕ) → byte_at k n < 256
byte_at-lt zero n = mod-lt n (omega arith)
byte_at-lt (suc k) n = mod-lt (n / 256 ^ suc k) (omega arith)

high_below : (n x i : ℕ) → slice_index (bytes_high_first n x) i < 256
high_below zero x i = omega arith
high_below (suc n) x zero = byte_at-lt n x
high_below (suc n) x (suc i) = high_below n x i

-- Two lists of n bytes that encode the same number are equal.
same_bytes : (n : ℕ) (xs ys : List ℕ) → ((i : ℕ) → slice_index xs i < 256) → ((i : ℕ) → slice_index ys i < 256) → length xs ≡ n → length ys ≡ n → big_from 0 n xs ≡ big_from 0 n ys → xs ≡ ys
same_bytes zero [] [] bx by lx ly e = refl
same_bytes zero [] (y ∷ ys) bx by lx ly e = absurd (omega arith)
same_bytes zero (x ∷ xs) ys bx by lx ly e = absurd (omega arith)
same_bytes (suc n) [] ys bx by lx ly e = absurd (omega arith)
same_bytes (suc n) (x ∷ xs) [] bx by lx ly e = absurd (omega arith)
same_bytes (suc n) (x ∷ xs) (y ∷ ys) bx by lx ly e =
    let cx = big_from-cons 0 n x xs in
    let cy = big_from-cons 0 n y ys in
    let rx = big_from-lt 0 n xs (λ i. bx (suc i)) in
    let ry = big_from-lt 0 n ys (λ i. by (suc i)) in
    let whole : x * 256 ^ n + big_from 0 n xs ≡ y * 256 ^ n + big_from 0 n ys = ap (λ r. x * 256 ^ n + r) (sym cx) ∙ e ∙ ap (λ r. y * 256 ^ n + r) cy in
    let first : x ≡ y = sym (div-mul-add x (256 ^ n) (big_from 0 n xs) rx) ∙ ap (λ v. v / 256 ^ n) whole ∙ div-mul-add y (256 ^ n) (big_from 0 n ys) ry in
    let scaled : x * 256 ^ n ≡ y * 256 ^ n = ap (λ v. v * 256 ^ n) first in
    let rest : big_from 0 n xs ≡ big_from 0 n ys = omega arith in
    let tails = same_bytes n xs ys (λ i. bx (suc i)) (λ i. by (suc i)) (omega arith) (omega arith) rest in
    ap (λ v. v ∷ xs) first ∙ ap (λ (l : List ℕ). y ∷ l) tails

-- Encoding the number that is decoded from n bytes gives these bytes again.
pub bytes_again : (n : ℕ) (xs : List ℕ) → ((i : ℕ) → slice_index xs i < 256) → length xs ≡ n → bytes_high_first n (big_from 0 n xs) ≡ xs
bytes_again n xs bx lx =
    let number = big_from 0 n xs in
    let read : big_from 0 n (bytes_high_first n number) ≡ number = ap (big_from 0 n) (sym (append-nil (bytes_high_first n number))) ∙ big_number-reads_back n number [] (big_from-lt 0 n xs bx) in
    same_bytes n (bytes_high_first n number) xs (high_below n number) bx (length-bytes_high_first n number) lx read
