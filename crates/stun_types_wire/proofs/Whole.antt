-- The list of complete attributes with which some bytes begin, one by one.
use Rattle.std.proofs.Common.{◌≡◌, ◌⊎◌, ℕ, zero, suc, ◌+◌, ◌<◌, ◌≤◌, true, false, leb, List, [], ◌∷◌, length, take, drop, refl, sym, ap, arith, inl, inr}
use Rattle.std.proofs.lemmas.Bool.{cases_Bool, and_parts, and_from, and_left, and_right, leb-true, le-leb, lt-leb}
use Rattle.std.proofs.lemmas.List.{length-drop, length-take}
use Rattle.stun_types_wire.specs.Attributes.{Attr, attr_size, attr_at, length_at, size_at, padded, is_whole, first_attributes, attributes}

pub whole_long : (bytes : List ℕ) → is_whole bytes ≡ true → size_at bytes ≤ length bytes
whole_long bytes h = leb-true _ _ (and_parts (leb 4 (length bytes)) (leb (size_at bytes) (length bytes)) h).1

pub whole_from : (bytes : List ℕ) → 4 ≤ length bytes → size_at bytes ≤ length bytes → is_whole bytes ≡ true
whole_from bytes four size = and_from (leb 4 (length bytes)) (leb (size_at bytes) (length bytes)) (le-leb 4 (length bytes) four) (le-leb (size_at bytes) (length bytes) size)

pub not_whole : (rest : List ℕ) → (length rest < 4) ⊎ (length rest < size_at rest) → is_whole rest ≡ false
not_whole rest (inl lt) = and_left (leb 4 (length rest)) (leb (size_at rest) (length rest)) (lt-leb 4 (length rest) lt)
not_whole rest (inr lt) = and_right (leb 4 (length rest)) (leb (size_at rest) (length rest)) (lt-leb (size_at rest) (length rest) lt)

none_short : (n : ℕ) (bytes : List ℕ) → length bytes ≤ 0 → first_attributes n bytes ≡ []
unfolding first_attributes
none_short zero bytes p = refl
none_short (suc n) [] p = refl
none_short (suc n) (b ∷ bytes) p = absurd (omega arith)

-- Any maximum count that is at least the number of bytes gives all complete attributes.
enough : (n m : ℕ) (bytes : List ℕ) → length bytes ≤ n → length bytes ≤ m → first_attributes n bytes ≡ first_attributes m bytes
unfolding first_attributes
enough zero m bytes p q = sym (none_short m bytes p)
enough (suc n) zero bytes p q = none_short (suc n) bytes q
enough (suc n) (suc m) bytes p q =
    elim (cases_Bool (is_whole bytes)) [
      | inl h ↦
          let long = whole_long bytes h in
          let less : length (drop (size_at bytes) bytes) ≤ n = omega (arith, length-drop (size_at bytes) bytes) in
          let less' : length (drop (size_at bytes) bytes) ≤ m = omega (arith, length-drop (size_at bytes) bytes) in
          rw h (ap (λ (rest : List Attr). attr_at bytes ∷ rest) (enough n m (drop (size_at bytes) bytes) less less'))
      | inr h ↦ rw h refl
    ]

-- If bytes begin with a complete attribute, their attributes are that one followed by those of the rest.
pub attributes_whole : (bytes : List ℕ) → is_whole bytes ≡ true → attributes bytes ≡ attr_at bytes ∷ attributes (drop (size_at bytes) bytes)
unfolding first_attributes attributes
attributes_whole [] h = absurd cc
attributes_whole (b ∷ bytes) h =
    let all : List ℕ = b ∷ bytes in
    let long = whole_long all h in
    let less : length (drop (size_at all) all) ≤ length bytes = omega (arith, length-drop (size_at all) all) in
    rw h (ap (λ (rest : List Attr). attr_at all ∷ rest) (enough (length bytes) (length (drop (size_at all) all)) (drop (size_at all) all) less (omega arith)))

pub attributes_short : (bytes : List ℕ) → is_whole bytes ≡ false → attributes bytes ≡ []
unfolding first_attributes attributes
attributes_short [] h = refl
attributes_short (b ∷ bytes) h = rw h refl

-- The value of a complete attribute has the length in its header, so its encoded length is the one in its
-- header.
pub size_whole : (bytes : List ℕ) → is_whole bytes ≡ true → attr_size (attr_at bytes) ≡ size_at bytes
size_whole bytes h =
    let long = whole_long bytes h in
    let len : length (take (length_at bytes) (drop 4 bytes)) ≡ length_at bytes = omega (arith, length-take (length_at bytes) (drop 4 bytes), length-drop 4 bytes) in
    ap (λ n. 4 + padded n) len
