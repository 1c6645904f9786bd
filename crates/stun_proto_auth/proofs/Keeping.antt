-- How supported algorithms are stored: there is a position for each, and their PASSWORD-ALGORITHMS value is
-- stored too.
use Rattle.std.proofs.Common.{◌≡◌, ◌≢◌, ℕ, zero, suc, ◌+◌, ◌*◌, ◌<◌, ◌≤◌, Bool, true, false, List, [], ◌∷◌, ◌++◌, length, take, drop, get_or, slice_set, refl, sym, ap, ◌∙◌, subst, arith, drop-drop}
use Rattle.std.specs.Prelude.{◌||◌}
use Rattle.std.specs.List.{IsDistinct, AllByRecursion, list_any}
use Rattle.std.proofs.lemmas.Bool.{eqb-false, ne_eqb}
use Rattle.std.proofs.lemmas.List.{length-append, length-set, take_more_set, drop-set-lt, length-take-le}
use Rattle.stun_types_message.specs.Wire.declared.algorithm.IntegrityAlgorithm.{IntegrityAlgorithm}
use Rattle.stun_types_message.specs.Wire.declared.algorithm.IntegrityAlgorithm.TheVariants.{Sha1, Sha256, Sha512}
use Rattle.stun_types_message.specs.Wire.Strength.{strength}
use Rattle.stun_types_message.specs.AuthAttributes.Entries.{entries, entry}
use Rattle.stun_proto_auth.specs.SupportedAlgorithms.{is_same_algorithm, list_of, number_by}
use Rattle.stun_proto_auth.specs.StoredAlgorithms.{AreStored, blanks}

-- ---- none twice

neither : (a b : Bool) → (a || b) ≡ false → (a ≡ false) × (b ≡ false)
neither true b h = absurd (Prim.cc h)
neither false b h = (refl, h)

pub others : (a b : IntegrityAlgorithm) → is_same_algorithm a b ≡ false → is_same_algorithm b a ≡ false
others a b h = ne_eqb (strength b) (strength a) (λ same. eqb-false (strength a) (strength b) h (sym same))

-- If an algorithm differs from all of a list and from one more, it differs from all of the list with that one
-- appended.
all_others : (x a : IntegrityAlgorithm) (xs : List IntegrityAlgorithm) → AllByRecursion (λ y. is_same_algorithm x y ≡ false) xs → is_same_algorithm x a ≡ false → AllByRecursion (λ y. is_same_algorithm x y ≡ false) (xs ++ a ∷ [])
all_others x a [] all h = (h, tt)
all_others x a (y ∷ xs) all h = (all.0, all_others x a xs all.1 h)

-- Appending another algorithm to distinct ones leaves them distinct.
pub more_distinct : (xs : List IntegrityAlgorithm) (a : IntegrityAlgorithm) → IsDistinct is_same_algorithm xs → list_any (is_same_algorithm a) xs ≡ false → IsDistinct is_same_algorithm (xs ++ a ∷ [])
unfolding IsDistinct
more_distinct [] a d h = (tt, tt)
more_distinct (x ∷ xs) a d h =
    let parts = neither (is_same_algorithm a x) (list_any (is_same_algorithm a) xs) h in
    (all_others x a xs d.0 (others a x parts.0), more_distinct xs a d.1 parts.1)

-- ---- no more of them than there are algorithms

low : (a : IntegrityAlgorithm) → 1 ≤ strength a
low Sha1 = omega arith
low Sha256 = omega arith
low Sha512 = omega arith

high : (a : IntegrityAlgorithm) → strength a ≤ 3
high Sha1 = omega arith
high Sha256 = omega arith
high Sha512 = omega arith

no_four : (x y z w : ℕ) → 1 ≤ x → 1 ≤ y → 1 ≤ z → 1 ≤ w → x ≤ 3 → y ≤ 3 → z ≤ 3 → w ≤ 3
    → x ≢ y → x ≢ z → x ≢ w → y ≢ z → y ≢ w → z ≢ w → ⊥
no_four x y z w a b c d e f g h i j k l m n = omega arith

apart : (a b : IntegrityAlgorithm) → is_same_algorithm a b ≡ false → strength a ≢ strength b
apart a b h = eqb-false (strength a) (strength b) h

pub few : (xs : List IntegrityAlgorithm) → IsDistinct is_same_algorithm xs → length xs ≤ 3
unfolding IsDistinct
few [] d = omega arith
few (x ∷ []) d = omega arith
few (x ∷ y ∷ []) d = omega arith
few (x ∷ y ∷ z ∷ []) d = omega arith
few (x ∷ y ∷ z ∷ w ∷ rest) d =
    absurd (no_four (strength x) (strength y) (strength z) (strength w) (low x) (low y) (low z) (low w) (high x) (high y) (high z) (high w)
    (apart x y d.0.0) (apart x z d.0.1.0) (apart x w d.0.1.1.0) (apart y z d.1.0.0) (apart y w d.1.0.1.0) (apart z w d.1.1.0.0))

-- ---- what is stored

-- The stored form of one algorithm.
pub one_stored : (a : IntegrityAlgorithm) (decoded : List ℕ) → decoded ≡ list_of (a ∷ Sha1 ∷ Sha1 ∷ []) → AreStored (a ∷ Sha1 ∷ Sha1 ∷ []) decoded 1
unfolding IsDistinct
one_stored a decoded e = record { size = refl; some = omega arith; within = omega arith; distinct = (tt, tt); rest = refl; entries = e }

-- There is a position for an algorithm that is not in the list.
pub has_room : (xs : List IntegrityAlgorithm) (decoded : List ℕ) (n : ℕ) (a : IntegrityAlgorithm) → AreStored xs decoded n → list_any (is_same_algorithm a) (take n xs) ≡ false → n < 3
has_room xs decoded n a k h =
    let long : length (take n xs) ≡ n = length-take-le n xs k.within in
    let most : length (take n xs ++ a ∷ []) ≤ 3 = few (take n xs ++ a ∷ []) (more_distinct (take n xs) a k.distinct h) in
    omega (arith, length-append (take n xs) (a ∷ []))

-- It is appended to the others.
pub one_more : (xs : List IntegrityAlgorithm) (decoded : List ℕ) (n : ℕ) (a : IntegrityAlgorithm) → AreStored xs decoded n → list_any (is_same_algorithm a) (take n xs) ≡ false → take (n + 1) (slice_set xs n a) ≡ take n xs ++ a ∷ []
one_more xs decoded n a k h =
    let size : length xs ≡ 3 = k.size in
    let below : n < length xs = omega (arith, has_room xs decoded n a k h) in
    take_more_set xs n a below

-- The stored form afterwards.
pub more_stored : (xs : List IntegrityAlgorithm) (old new : List ℕ) (n m : ℕ) (a : IntegrityAlgorithm) → AreStored xs old n → m ≡ n → list_any (is_same_algorithm a) (take n xs) ≡ false
    → new ≡ list_of (slice_set xs m a) → AreStored (slice_set xs m a) new (n + 1)
more_stored xs old new n m a k is h e = rw is (
    let size : length xs ≡ 3 = k.size in
    let below : n < length xs = omega (arith, has_room xs old n a k h) in
    record {
      size = length-set xs n a ∙ size;
      some = omega arith;
      within = omega (arith, length-set xs n a);
      distinct = subst (IsDistinct is_same_algorithm) (sym (take_more_set xs n a below)) (more_distinct (take n xs) a k.distinct h);
      rest = drop-set-lt (n + 1) xs n a (omega arith) ∙ sym (drop-drop 1 n xs) ∙ ap (drop 1) k.rest ∙ drop-drop 1 n blanks;
      entries = rw is at e;
    })

-- Appending an algorithm.
pub ruleset adding = (has_room, one_more, more_stored)

-- ---- what is reported

four_more : (n : ℕ) → 4 * suc n ≡ suc (suc (suc (suc (4 * n))))
four_more n = omega arith

-- The entries of the first `n` algorithms are the first 4 `n` bytes of the value.
pub head_decoded : (xs : List IntegrityAlgorithm) (n : ℕ) → take (4 * n) (list_of xs) ≡ list_of (take n xs)
unfolding entries
head_decoded [] zero = refl
head_decoded [] (suc n) = rw (four_more n) refl
head_decoded (x ∷ xs) zero = refl
head_decoded (x ∷ xs) (suc n) = rw (four_more n) (ap (λ (bytes : List ℕ). entry (number_by x) ++ bytes) (head_decoded xs n))

-- The value that lists three algorithms.
pub three_decoded : (xs : List IntegrityAlgorithm) (d : IntegrityAlgorithm) → length xs ≡ 3
    → entry (number_by (get_or xs 0 d)) ++ (entry (number_by (get_or xs 1 d)) ++ entry (number_by (get_or xs 2 d))) ≡ list_of xs
unfolding entries
three_decoded (x ∷ y ∷ z ∷ []) d h = refl
three_decoded [] d h = absurd (omega arith)
three_decoded (x ∷ []) d h = absurd (omega arith)
three_decoded (x ∷ y ∷ []) d h = absurd (omega arith)
three_decoded (x ∷ y ∷ z ∷ w ∷ xs) d h = absurd (omega arith)
