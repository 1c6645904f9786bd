-- A borrowed slice whose first bytes are written.
use Rattle.std.proofs.Common.{◌≡◌, ℕ, zero, suc, ◌+◌, ◌-◌, ◌≤◌, List, [], ◌∷◌, ◌++◌, length, take, drop, replicate, refl, sym, ap, ◌∙◌, arith}
use Rattle.std.proofs.lemmas.List.{length-append, length-drop, length-replicate, length-take, length-take-le}
use Rattle.std.proofs.Math.Seq.{drop-append_seam, drop-append-add}
use Rattle.stun_types_wire.specs.Attributes.{Attr, attr_size, padding_len}
use Rattle.stun_types_wire.specs.Text.{attribute_text, padded_text}
use Rattle.byteorder.specs.Endian.{big_bytes}
use Rattle.stun_types_wire.specs.Covered.{with_length}

-- The bytes after the written ones begin where the written ones end.
from_end : (lent : List ℕ) (len : ℕ) → drop (length (take len lent)) lent ≡ drop len lent
from_end [] zero = refl
from_end [] (suc len) = refl
from_end (b ∷ lent) zero = refl
from_end (b ∷ lent) (suc len) = from_end lent len

-- Writing a text of n bytes removes n bytes from those after the written ones.
pub after_after : (lent text : List ℕ) (len start n : ℕ) → start ≡ length (take len lent) → n ≡ length text
    → drop (start + n) (take start lent ++ (text ++ drop (start + n - start) (drop start lent))) ≡ drop n (drop len lent)
after_after lent text len start n start-is n-is =
    let short : start ≤ length lent = omega (arith, start-is, length-take len lent) in
    let size : length (take start lent) ≡ start = length-take-le start lent short in
    let same : start + n - start ≡ n = omega arith in
    let rest = drop n (drop start lent) in
    ap (λ k. drop (start + n) (take start lent ++ (text ++ drop k (drop start lent)))) same
    ∙ ap (λ k. drop (k + n) (take start lent ++ (text ++ rest))) (sym size)
    ∙ drop-append-add (take start lent) (text ++ rest) n
    ∙ ap (λ k. drop k (text ++ rest)) n-is
    ∙ drop-append_seam text rest
    ∙ ap (λ k. drop n (drop k lent)) start-is
    ∙ ap (λ (l : List ℕ). drop n l) (from_end lent len)

-- If there is room for an attribute, writing it fills exactly its encoded length.
pub attribute_fills : (lent after : List ℕ) (a : Attr) (len start n : ℕ) → start ≡ length (take len lent) → n ≡ attr_size a → length (take len lent) + attr_size a ≤ length (take len lent) + length (drop len lent)
    → after ≡ attribute_text a ++ drop (attr_size a) (take (start + n - start) (drop start lent)) → n ≡ length after
unfolding attribute_text padded_text
attribute_fills lent after a len start n start-is n-is room after-is =
    let dest = take (start + n - start) (drop start lent) in
    let padding = length-replicate {A = ℕ} (padding_len (length a.value)) 0 in
    let text : length (attribute_text a) ≡ attr_size a = omega (arith, padding, length-append a.value (replicate (padding_len (length a.value)) 0)) in
    let size : length dest ≡ n = omega (arith, length-take (start + n - start) (drop start lent), length-drop start lent, length-drop len lent, length-take len lent, start-is, n-is, room) in
    omega (arith, ap length after-is, length-append (attribute_text a) (drop (attr_size a) dest), length-drop (attr_size a) dest, text, size, n-is)

-- The length field of a header lies within the written bytes.
pub take_decoded : (lent : List ℕ) (len n : ℕ) → 20 ≤ length (take len lent) → take len (with_length lent n) ≡ with_length (take len lent) n
unfolding with_length
take_decoded lent len n long = head lent len (omega (arith, long, length-take len lent)) (omega (arith, long, length-take len lent))
  where
    head : (l : List ℕ) (m : ℕ) → 4 ≤ m → 4 ≤ length l → take m (take 2 l ++ big_bytes 2 n ++ drop 4 l) ≡ take 2 (take m l) ++ big_bytes 2 n ++ drop 4 (take m l)
    head (a ∷ b ∷ c ∷ d ∷ l) m p q =
        let e : m ≡ suc (suc (suc (suc (m - 4)))) = omega arith in
        rw e refl
    head [] m p q = absurd (omega arith)
    head (a ∷ []) m p q = absurd (omega arith)
    head (a ∷ b ∷ []) m p q = absurd (omega arith)
    head (a ∷ b ∷ c ∷ []) m p q = absurd (omega arith)

pub drop_decoded : (lent : List ℕ) (len n : ℕ) → 20 ≤ length (take len lent) → drop len (with_length lent n) ≡ drop len lent
unfolding with_length
drop_decoded lent len n long = back lent len (omega (arith, long, length-take len lent)) (omega (arith, long, length-take len lent))
  where
    back : (l : List ℕ) (m : ℕ) → 4 ≤ m → 4 ≤ length l → drop m (take 2 l ++ big_bytes 2 n ++ drop 4 l) ≡ drop m l
    back (a ∷ b ∷ c ∷ d ∷ l) m p q =
        let e : m ≡ suc (suc (suc (suc (m - 4)))) = omega arith in
        rw e refl
    back [] m p q = absurd (omega arith)
    back (a ∷ []) m p q = absurd (omega arith)
    back (a ∷ b ∷ []) m p q = absurd (omega arith)
    back (a ∷ b ∷ c ∷ []) m p q = absurd (omega arith)
