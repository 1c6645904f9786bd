-- Sets of attribute types, one bit for each type in a list of words.
use Rattle.std.proofs.Common.{◌≡◌, ℕ, ◌+◌, ◌*◌, ◌/◌, ◌%◌, ◌^◌, ◌<◌, ◌≤◌, eqb, nat_eq, bit_and, bit_or, not, Bool, true, false, ◌||◌, List, [], ◌∷◌, length, get_or, set, take, drop, replicate, refl, sym, ap, ◌∙◌, arith, inl, inr, w64}
use Rattle.std.specs.Int.{bit_at}
use Rattle.std.proofs.lemmas.Bool.{cases_eq, cases_lt, eq-eqb, ne_eqb}
use Rattle.std.proofs.lemmas.Bool.Decides.{nat_tests}
use Rattle.std.proofs.lemmas.Grind.{get_or-set_at}
use Rattle.std.proofs.lemmas.List.{get_or-replicate, get_or-set_other, get_or_past, get_or_read, length-replicate}
use Rattle.std.proofs.lemmas.Nat.{one_shl, pow_pos}
use Rattle.std.proofs.lemmas.Nat.Bits.{and_pow, bit_at-zero, bit_at-lt, bit_at_set_same, bit_at_set_other}
use Rattle.stun_types_auth_attributes.specs.Write.Adding.{has_kind}
use Rattle.stun_types_attributes.specs.TypeMarks.{is_marked}
use Rattle.stun_types_attributes.specs.UnknownTypes.{types_decoded}
use Rattle.stun_types_attributes.proofs.TypeLists.{none_decoded}

-- Reading a list of zeros gives 0 at each index, also past its end.
zero_at : (count bit_index : ℕ) → get_or {A = ℕ} (replicate count 0) bit_index 0 ≡ 0
zero_at count bit_index =
    elim (cases_lt bit_index count) [
      | inl h ↦ get_or-replicate count bit_index 0 0 h
      | inr h ↦ get_or_past {X = ℕ} (replicate count 0) bit_index 0 (omega (arith, length-replicate {A = ℕ} count 0))
    ]

-- If all words are zero, the set is empty.
pub none_marked : (words : List ℕ) (count kind : ℕ) → words ≡ replicate count 0 → is_marked words kind ≡ false
unfolding is_marked
none_marked words count kind none =
    let zero_word : get_or words (kind / 64) 0 ≡ 0 = ap (λ (l : List ℕ). get_or l (kind / 64) 0) none ∙ zero_at count (kind / 64) in
    ap (λ (w : ℕ). eqb (bit_at w (kind % 64)) 1) zero_word ∙ ap (λ (b : ℕ). eqb b 1) (bit_at-zero (kind % 64))

-- Testing a bit with a mask tests that bit.
bit_test : (word bit_index : ℕ) → bit_index < 64 → not (nat_eq (bit_and word (1 * 2 ^ bit_index % 2 ^ 64)) 0) ≡ eqb (bit_at word bit_index) 1
bit_test word bit_index small =
    let shifted = one_shl bit_index 64 small in
    let masked = and_pow word bit_index in
    let some = pow_pos bit_index in
    let bit = bit_at-lt word bit_index in
    let test : not (nat_eq (bit_at word bit_index * 2 ^ bit_index) 0) ≡ eqb (bit_at word bit_index) 1 =
    elim (cases_eq (bit_at word bit_index) 0) [
      | inl h ↦
          let product : bit_at word bit_index * 2 ^ bit_index ≡ 0 = rw h (omega arith) in
          ap not (eq-eqb (bit_at word bit_index * 2 ^ bit_index) 0 product) ∙ sym (ne_eqb (bit_at word bit_index) 1 (λ e. omega arith))
      | inr h ↦
          let one : bit_at word bit_index ≡ 1 = omega arith in
          let product : bit_at word bit_index * 2 ^ bit_index ≡ 2 ^ bit_index = rw one (omega arith) in
          ap not (ne_eqb (bit_at word bit_index * 2 ^ bit_index) 0 (λ e. omega arith)) ∙ sym (eq-eqb (bit_at word bit_index) 1 one)
    ] in
    rw shifted (rw masked test)

-- Testing the bit of a type tells whether the type is in the set.
pub mark_test : (words : List ℕ) (bit_index word : ℕ) → bit_index / 64 < length words → word ≡ get_or words (bit_index / 64) word → not (nat_eq (bit_and word (1 * 2 ^ (bit_index % 64) % 2 ^ 64)) 0) ≡ is_marked words bit_index
unfolding is_marked
mark_test words bit_index word within is =
    bit_test word (bit_index % 64) (omega arith) ∙ ap (λ (w : ℕ). eqb (bit_at w (bit_index % 64)) 1) (get_or_read words (bit_index / 64) word within is 0)

-- Setting the bit of a type adds that type to the set and no other.
pub marked_more : (words : List ℕ) (atype kind word : ℕ) → atype / 64 < length words → word ≡ get_or words (atype / 64) word → is_marked (set words (atype / 64) (bit_or word (1 * 2 ^ (atype % 64) % 2 ^ 64))) kind ≡ (eqb atype kind || is_marked words kind)
unfolding is_marked
marked_more words atype kind word within is =
    let more = bit_or word (1 * 2 ^ (atype % 64) % 2 ^ 64) in
    elim (cases_eq (kind / 64) (atype / 64)) [
      | inl same ↦
          let read : get_or (set words (atype / 64) more) (kind / 64) 0 ≡ more = get_or-set_at words (atype / 64) (kind / 64) more 0 same within in
          let was : word ≡ get_or words (kind / 64) 0 = get_or_read words (atype / 64) word within is 0 ∙ ap (λ (n : ℕ). get_or words n 0) (sym same) in
          elim (cases_eq (kind % 64) (atype % 64)) [
            | inl bit_index ↦
                let equal : eqb atype kind ≡ true = eq-eqb atype kind (omega arith) in
                let set_bit : bit_at more (kind % 64) ≡ 1 = ap (bit_at more) bit_index ∙ bit_at_set_same w64 word (atype % 64) (omega arith) in
                rw (read, set_bit, equal) refl
            | inr bit_index ↦
                let differ : eqb atype kind ≡ false = ne_eqb atype kind (λ e. bit_index (ap (λ (n : ℕ). n % 64) (sym e))) in
                let stored : bit_at more (kind % 64) ≡ bit_at word (kind % 64) = bit_at_set_other w64 word (atype % 64) (omega arith) (kind % 64) bit_index in
                rw (read, stored, differ, was) refl
          ]
      | inr other ↦
          let differ : eqb atype kind ≡ false = ne_eqb atype kind (λ e. other (ap (λ (n : ℕ). n / 64) (sym e))) in
          let read : get_or (set words (atype / 64) more) (kind / 64) 0 ≡ get_or words (kind / 64) 0 = get_or-set_other words (atype / 64) (kind / 64) more 0 other in
          rw (read, differ) refl
    ]

-- The first two of three alternatives can be swapped.
or_turned : (first second third : Bool) → ((first || second) || third) ≡ (second || (first || third))
or_turned true true third = refl
or_turned true false third = refl
or_turned false second third = refl

-- A type is among the decoded ones if and only if it is the first of them or among the others.
decoded_first : (left : List ℕ) (kind first : ℕ) → 2 ≤ length left → first ≡ get_or (take 2 left) 0 0 * 256 + get_or (take 2 left) 1 0 → has_kind kind (types_decoded left) ≡ (eqb first kind || has_kind kind (types_decoded (drop 2 left)))
unfolding types_decoded
decoded_first [] kind first long is = absurd (omega arith)
decoded_first (a ∷ []) kind first long is = absurd (omega arith)
decoded_first (a ∷ b ∷ rest) kind first long is = ap (λ (n : ℕ). eqb n kind || has_kind kind (types_decoded rest)) (sym is)

-- Adding the first of the remaining types to the set keeps the loop invariant.
pub next_marked : (left : List ℕ) (kind first : ℕ) (new old all : Bool) → 2 ≤ length left → first ≡ get_or (take 2 left) 0 0 * 256 + get_or (take 2 left) 1 0 → new ≡ (eqb first kind || old) → (old || has_kind kind (types_decoded left)) ≡ all → (new || has_kind kind (types_decoded (drop 2 left))) ≡ all
next_marked left kind first new old all long is more before =
    let others = has_kind kind (types_decoded (drop 2 left)) in
    ap (λ (b : Bool). b || others) more ∙ (or_turned (eqb first kind) old others ∙ (ap (λ (b : Bool). old || b) (sym (decoded_first left kind first long is)) ∙ before))

-- If no type remains, all decoded types are in the set.
pub all_marked : (left : List ℕ) (kind : ℕ) (marked all : Bool) → length left < 2 → (marked || has_kind kind (types_decoded left)) ≡ all → marked ≡ all
all_marked left kind marked all short before =
    let none : has_kind kind (types_decoded left) ≡ false = ap (λ (l : List ℕ). has_kind kind l) (none_decoded left short) in
    grind (arith, nat_tests, none, before)
