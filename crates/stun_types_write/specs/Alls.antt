-- A writer all of whose bytes are replaced in place.
use Rattle.std.proofs.Common.{◌≡◌, ℕ, zero, suc, List, [], ◌∷◌, ◌++◌, length, take, drop, Some, refl, ap, ◌∙◌, arith}
use Rattle.std.proofs.lemmas.List.{append-nil}
use Rattle.stun_types_write.specs.Lent.{Lent, Own, lent_draft, own_changed, own_draft, with_lent, with_all}

take_same : (len : ℕ) (old all : List ℕ) → length all ≡ length old → take len all ≡ take (length (take len old)) all
take_same zero old all h = refl
take_same (suc len) [] [] h = refl
take_same (suc len) [] (b ∷ all) h = absurd (omega (arith, h))
take_same (suc len) (a ∷ old) [] h = refl
take_same (suc len) (a ∷ old) (b ∷ all) h = ap (λ (l : List ℕ). b ∷ l) (take_same len old all (omega (arith, h)))

drop_same : (len : ℕ) (old all : List ℕ) → length all ≡ length old → drop len all ≡ drop (length (take len old)) all
drop_same zero old all h = refl
drop_same (suc len) [] [] h = refl
drop_same (suc len) [] (b ∷ all) h = absurd (omega (arith, h))
drop_same (suc len) (a ∷ old) [] h = refl
drop_same (suc len) (a ∷ old) (b ∷ all) h = drop_same len old all (omega (arith, h))

take_drop : (len : ℕ) (old : List ℕ) → take len old ++ drop len old ≡ old
take_drop zero old = refl
take_drop (suc len) [] = refl
take_drop (suc len) (a ∷ old) = ap (λ (l : List ℕ). a ∷ l) (take_drop len old)

pub lent_changed : (w : Lent) (all : List ℕ) → length all ≡ length (take w.len w.lent ++ drop w.len w.lent)
    → lent_draft (with_lent w all) ≡ with_all (lent_draft w) all
lent_changed w all h =
    let same : length all ≡ length w.lent = h ∙ ap length (take_drop w.len w.lent) in
    ap (λ (l : List ℕ). record (lent_draft (with_lent w all)) { bytes = l }) (take_same w.len w.lent all same)
    ∙ ap (λ (l : List ℕ). record (with_all (lent_draft w) all) { following = l; limit = Some (length all) })
    (drop_same w.len w.lent all same)
    ∙ ap (λ (n : ℕ). record (with_all (lent_draft w) all) { limit = Some n }) same

take_all : (old all rest : List ℕ) → length all ≡ length old → take (length old) (all ++ rest) ≡ take (length old) all
take_all [] all rest h = refl
take_all (a ∷ old) [] rest h = absurd (omega (arith, h))
take_all (a ∷ old) (b ∷ all) rest h = ap (λ (l : List ℕ). b ∷ l) (take_all old all rest (omega (arith, h)))

drop_all : (old all : List ℕ) → length all ≡ length old → [] ≡ drop (length old) all
drop_all [] [] h = refl
drop_all [] (b ∷ all) h = absurd (omega (arith, h))
drop_all (a ∷ old) [] h = absurd (omega (arith, h))
drop_all (a ∷ old) (b ∷ all) h = drop_all old all (omega (arith, h))

pub own_law : (w : Own) (all : List ℕ) → length all ≡ length (w.bytes ++ []) → own_draft (own_changed w all)
    ≡ with_all (own_draft w) all
own_law w all h =
    let same : length all ≡ length w.bytes = h ∙ ap length (append-nil w.bytes) in
    ap (λ (l : List ℕ). record (own_draft w) { bytes = l }) (take_all w.bytes all (drop (length all) w.bytes) same)
    ∙ ap (λ (l : List ℕ). record (with_all (own_draft w) all) { following = l }) (drop_all w.bytes all same)

-- Replacing the bytes of a vector in place leaves what `own_changed` says.
pub refilled : (n : ℕ) (items bytes all : List ℕ) → n ≡ length items → items ≡ bytes
    → take n (all ++ drop (length all) items) ≡ take (length bytes) (all ++ drop (length all) bytes)
refilled n items bytes all len same = rw (len, same) refl
