-- What a look-up finds among entries, also after an edit.
use Rattle.std.proofs.Common.{◌≡◌, ◌≢◌, ℕ, zero, suc, ◌<◌, ◌≤◌, Bool, true, false, cond, List, [], ◌∷◌, length, get_or, set, Option, Some, None, Result, Ok, Err, IfOk, IfErr, refl, sym, ap, ◌∙◌, inl, inr, arith}
use Rattle.std.specs.List.{insert, remove}
use Rattle.std.specs.List.Sorted.{IsSearchInRange, IsBinarySearchResult, IsNonDecreasingBy}
use Rattle.std.specs.FinMap.{find}
use Rattle.std.specs.Ordering.{eq_by_cmp, nat_cmp, ordering_index}
use Rattle.std.specs.Cmp.{eq_by_cmp_equiv, nat_cmp_total, ranked}
use Rattle.std.proofs.lemmas.Bool.{cases_lt}
use Rattle.std.proofs.lemmas.Bool.Decides.{nat_tests}
use Rattle.stun_proto_transaction.specs.Sorted.{IsAt, IsGap, IsStrictlySorted}
use Rattle.stun_proto_transaction.proofs.Leasts.{same_number}

own : (n : ℕ) → eq_by_cmp nat_cmp n n ≡ true
own n = (eq_by_cmp_equiv nat_cmp_total).refl n

-- Different keys do not compare as equal.
pub other_number : (n k : ℕ) → n ≢ k → eq_by_cmp nat_cmp n k ≡ false
other_number n k differs = elim (eq_by_cmp nat_cmp n k) as (λ b. eq_by_cmp nat_cmp n k ≡ b → b ≡ false) [
  | true ↦ λ is. absurd (differs (same_number n k is))
  | false ↦ λ is. refl
] refl

inside : {A : Type 0} {a b : A} → Some a ≡ Some b → a ≡ b
inside p = Prim.cc p

apart : (q k n : ℕ) → k ≢ n → eq_by_cmp nat_cmp q k ≡ true → eq_by_cmp nat_cmp q n ≡ false
apart q k n differs is = other_number q n (λ same. differs (sym (same_number q k is) ∙ same))

module _ {X : Type 0} where
  abbrev Found : ℕ → List (ℕ × X) → Option X
  Found q l = find nat_cmp q l

  -- Two tests that never pass together may be tried in either order.
  swapped : (a b : Bool) (u v w : Option X) → (a ≡ true → b ≡ false) → cond a u (cond b v w) ≡ cond b v (cond a u w)
  swapped true b u v w apart = ap (λ t. cond t v u) (sym (apart refl))
  swapped false b u v w apart = refl

  pub find-inserted : (l : List (ℕ × X)) (number position : ℕ) (v : X) → ((j : ℕ) (d : ℕ × X) → j < position → (get_or l j d).0 ≢ number) → (q : ℕ)
      → Found q (insert l position (number, v)) ≡ cond (eq_by_cmp nat_cmp q number) (Some v) (Found q l)
  find-inserted [] number zero v before q = refl
  find-inserted [] number (suc position) v before q = refl
  find-inserted (x ∷ l) number zero v before q = refl
  find-inserted (x ∷ l) number (suc position) v before q =
      ap (cond (eq_by_cmp nat_cmp q x.0) (Some x.1)) (find-inserted l number position v (λ j d less. before (suc j) d (omega (arith, less))) q)
      ∙ swapped (eq_by_cmp nat_cmp q x.0) (eq_by_cmp nat_cmp q number) (Some x.1) (Some v) (Found q l) (apart q x.0 number (before 0 x (omega arith)))

  over : (q k number : ℕ) (u v w : Option X) → k ≡ number → cond (eq_by_cmp nat_cmp q number) v w ≡ cond (eq_by_cmp nat_cmp q number) v (cond (eq_by_cmp nat_cmp q k) u w)
  over q k number u v w same = elim (eq_by_cmp nat_cmp q number) as (λ b. eq_by_cmp nat_cmp q number ≡ b → cond b v w ≡ cond b v (cond (eq_by_cmp nat_cmp q k) u w)) [
    | true ↦ λ is. refl
    | false ↦ λ is. ap (λ t. cond t u w) (sym (ap (λ n. eq_by_cmp nat_cmp q n) same ∙ is))
  ] refl

  pub find-written : (l : List (ℕ × X)) (number position : ℕ) (v : X) → IsAt l number position → ((j : ℕ) (d : ℕ × X) → j < position → (get_or l j d).0 ≢ number) → (q : ℕ)
      → Found q (set l position (number, v)) ≡ cond (eq_by_cmp nat_cmp q number) (Some v) (Found q l)
  find-written [] number position v at before q = absurd (let w = at.within in omega (arith, w))
  find-written (x ∷ l) number zero v at before q = over q x.0 number (Some x.1) (Some v) (Found q l) (at.same x)
  find-written (x ∷ l) number (suc position) v at before q =
      ap (cond (eq_by_cmp nat_cmp q x.0) (Some x.1)) (find-written l number position v (record { within = (let w = at.within in (let less : position < length l = omega (arith, w) in less)); same = at.same }) (λ j d less. before (suc j) d (omega (arith, less))) q)
      ∙ swapped (eq_by_cmp nat_cmp q x.0) (eq_by_cmp nat_cmp q number) (Some x.1) (Some v) (Found q l) (apart q x.0 number (before 0 x (omega arith)))

  -- A key that no entry has is not found.
  pub find-absent : (l : List (ℕ × X)) (q : ℕ) → ((j : ℕ) (d : ℕ × X) → j < length l → (get_or l j d).0 ≢ q) → Found q l ≡ None
  find-absent [] q none = refl
  find-absent (x ∷ l) q none =
      ap (λ b. cond b (Some x.1) (Found q l)) (other_number q x.0 (λ same. none 0 x (omega arith) (sym same))) ∙ find-absent l q (λ j d less. none (suc j) d (omega (arith, less)))

  tail : (x : ℕ × X) (l : List (ℕ × X)) → IsStrictlySorted (x ∷ l) → IsStrictlySorted l
  tail x l sorted i j d less within = sorted (suc i) (suc j) d (omega (arith, less)) (omega (arith, within))

  without : (q k number : ℕ) (u w : Option X) → k ≡ number → (q ≡ k → w ≡ None) → w ≡ cond (eq_by_cmp nat_cmp q number) None (cond (eq_by_cmp nat_cmp q k) u w)
  without q k number u w same none = elim (eq_by_cmp nat_cmp q number) as (λ b. eq_by_cmp nat_cmp q number ≡ b → w ≡ cond b None (cond (eq_by_cmp nat_cmp q k) u w)) [
    | true ↦ λ is. none (same_number q number is ∙ sym same)
    | false ↦ λ is. ap (λ t. cond t u w) (sym (ap (λ n. eq_by_cmp nat_cmp q n) same ∙ is))
  ] refl

  pub find-removed : (l : List (ℕ × X)) (number position : ℕ) → IsAt l number position → IsStrictlySorted l → (q : ℕ)
      → Found q (remove l position) ≡ cond (eq_by_cmp nat_cmp q number) None (Found q l)
  find-removed [] number position at sorted q = absurd (let w = at.within in omega (arith, w))
  find-removed (x ∷ l) number zero at sorted q = without q x.0 number (Some x.1) (Found q l) (at.same x)
      (λ is. find-absent l q (λ j d less same. absurd (let more = sorted 0 (suc j) d (omega arith) (omega (arith, less)) in omega (arith, more, same, is))))
  find-removed (x ∷ l) number (suc position) at sorted q =
      ap (cond (eq_by_cmp nat_cmp q x.0) (Some x.1)) (find-removed l number position (record { within = (let w = at.within in (let less : position < length l = omega (arith, w) in less)); same = at.same }) (tail x l sorted) q)
      ∙ swapped (eq_by_cmp nat_cmp q x.0) (eq_by_cmp nat_cmp q number) (Some x.1) None (Found q l)
      (apart q x.0 number (λ same. absurd (let w = at.within in let more = sorted 0 (suc position) x (omega arith) w in let is = at.same x in omega (arith, more, same, is))))

  -- The key of an entry is found, with the entry's value.
  pub find-at : (l : List (ℕ × X)) (number position : ℕ) (d : ℕ × X) → IsAt l number position → IsStrictlySorted l → Found number l ≡ Some (get_or l position d).1
  find-at [] number position d at sorted = absurd (let w = at.within in omega (arith, w))
  find-at (x ∷ l) number zero d at sorted = ap (λ b. cond b (Some x.1) (Found number l)) (ap (λ n. eq_by_cmp nat_cmp number n) (at.same x) ∙ own number)
  find-at (x ∷ l) number (suc position) d at sorted =
      ap (λ b. cond b (Some x.1) (Found number l)) (other_number number x.0 (λ same. absurd (let w = at.within in let more = sorted 0 (suc position) x (omega arith) w in let is = at.same x in omega (arith, more, same, is))))
      ∙ find-at l number position d (record { within = (let w = at.within in (let less : position < length l = omega (arith, w) in less)); same = at.same }) (tail x l sorted)

  -- An entry with this key and value is at some index.
  abbrev pub IsFoundAt : List (ℕ × X) → ℕ → X → Type 0
  IsFoundAt l number v = (j : ℕ) × (j < length l) × ((d : ℕ × X) → get_or l j d ≡ (number, v))

  pub found-at : (l : List (ℕ × X)) (number : ℕ) (v : X) → Found number l ≡ Some v → IsFoundAt l number v
  found-at [] number v is = absurd (Prim.cc is)
  found-at (x ∷ l) number v is = elim (eq_by_cmp nat_cmp number x.0) as (λ b. eq_by_cmp nat_cmp number x.0 ≡ b → cond b (Some x.1) (Found number l) ≡ Some v → IsFoundAt (x ∷ l) number v) [
    | true ↦ λ same value. (0, (let some : 0 < length (x ∷ l) = omega arith in some), λ d i. (sym (same_number number x.0 same) i, inside value i))
    | false ↦ λ differs later. let found = found-at l number v later in (suc found.0, (let some : suc found.0 < length (x ∷ l) = (let less = found.1 in omega (arith, less)) in some), found.2)
  ] refl is

  -- ---- the search by halves

  module _ (l : List (ℕ × X)) (sorted : IsStrictlySorted l) (k : ℕ) where
    rising : (i j : ℕ) (d : ℕ × X) → i ≤ j → j < length l → (get_or l i d).0 ≤ (get_or l j d).0
    rising i j d le within = elim (cases_lt i j) [
      | inl less ↦ (let more = sorted i j d less within in omega (arith, more))
      | inr not_less ↦ (let same = ap (λ n. (get_or l n d).0) (let is : i ≡ j = omega (arith, le, not_less) in is) in omega (arith, same))
    ]

    comparisons_rise : IsNonDecreasingBy (λ e. ordering_index (nat_cmp e.0 k)) l
    comparisons_rise i j d le within = grind (arith, nat_tests, rising i j d le within)

    pub searched : (r : Result ℕ ℕ) → IsSearchInRange r (length l) → IsBinarySearchResult (λ e. nat_cmp e.0 k) l r → record { found : IfOk r (λ i. IsAt l k i); absent : IfErr r (λ i. IsGap l k i) }
    searched (Ok at) in_range equal = record { found = record { within = in_range; same = λ d. ranked _ k _ (sym (equal d)) }; absent = tt }
    searched (Err at) in_range parted = record {
      found = tt;
      absent = record {
        within = in_range;
        smaller = λ j d lt. ranked _ k _ (sym ((parted comparisons_rise).0 j d (omega arith) lt));
        greater = λ j d le lt. ranked _ k _ (sym ((parted comparisons_rise).1 j d le lt));
      };
    }
