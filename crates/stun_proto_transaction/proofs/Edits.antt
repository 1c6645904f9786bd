-- The effect of edits on mapped lists and on sorted entries.
use Rattle.std.proofs.Common.{◌≡◌, ℕ, zero, suc, ◌+◌, ◌-◌, ◌<◌, ◌≤◌, List, [], ◌∷◌, length, get_or, set, map, refl, sym, ap, ◌∙◌, subst, inl, inr, arith}
use Rattle.std.specs.List.{insert, remove}
use Rattle.std.proofs.lemmas.Bool.{cases_lt}
use Rattle.std.proofs.lemmas.List.{get_or-set_same, get_or-set_other, length-set}
use Rattle.std.proofs.lemmas.List.Edits.{length-insert, get_or-insert_below, get_or-insert_at, get_or-insert_above, length-remove, get_or-remove_below, get_or-remove_above}
use Rattle.stun_proto_transaction.specs.Sorted.{IsAt, IsGap, IsStrictlySorted}

module _ {A B : Type 0} (f : A → B) where
  pub map-inserted : (l : List A) (i : ℕ) (y : A) → map f (insert l i y) ≡ insert (map f l) i (f y)
  map-inserted [] zero y = refl
  map-inserted [] (suc i) y = refl
  map-inserted (x ∷ l) zero y = refl
  map-inserted (x ∷ l) (suc i) y = ap (λ r. f x ∷ r) (map-inserted l i y)

  pub map-removed : (l : List A) (i : ℕ) → map f (remove l i) ≡ remove (map f l) i
  map-removed [] zero = refl
  map-removed [] (suc i) = refl
  map-removed (x ∷ l) zero = refl
  map-removed (x ∷ l) (suc i) = ap (λ r. f x ∷ r) (map-removed l i)

  pub map-written : (l : List A) (i : ℕ) (y : A) → map f (set l i y) ≡ set (map f l) i (f y)
  map-written [] zero y = refl
  map-written [] (suc i) y = refl
  map-written (x ∷ l) zero y = refl
  map-written (x ∷ l) (suc i) y = ap (λ r. f x ∷ r) (map-written l i y)

  pub get_or-mapped : (l : List A) (i : ℕ) (d : A) (e : B) → i < length l → get_or (map f l) i e ≡ f (get_or l i d)
  get_or-mapped [] i d e less = absurd (omega (arith, less))
  get_or-mapped (x ∷ l) zero d e less = refl
  get_or-mapped (x ∷ l) (suc i) d e less = get_or-mapped l i d e (omega (arith, less))

  pub length-mapped : (l : List A) → length (map f l) ≡ length l
  length-mapped [] = refl
  length-mapped (x ∷ l) = ap suc (length-mapped l)

-- Removing an inserted element restores the list.
pub remove-inserted : {A : Type 0} (l : List A) (i : ℕ) (y : A) → i ≤ length l → remove (insert l i y) i ≡ l
remove-inserted [] zero y less = refl
remove-inserted [] (suc i) y less = absurd (omega (arith, less))
remove-inserted (x ∷ l) zero y less = refl
remove-inserted (x ∷ l) (suc i) y less = ap (λ r. x ∷ r) (remove-inserted l i y (omega (arith, less)))

-- ---- order

module _ {X : Type 0} where
  -- The key of an entry.
  abbrev key : ℕ × X → ℕ
  key e = e.0

  at_index : (l : List (ℕ × X)) (k j : ℕ) (d : ℕ × X) → k ≡ j → get_or l k d ≡ get_or l j d
  at_index l k j d same = ap (λ i. get_or l i d) same

  module _ (l : List (ℕ × X)) (number position : ℕ) (v : X) (gap : IsGap l number position) where
    above : (k : ℕ) (d : ℕ × X) → position < k → get_or (insert l position (number, v)) k d ≡ get_or l (k - 1) d
    above k d more = at_index (insert l position (number, v)) k (k - 1 + 1) d (omega (arith, more)) ∙ get_or-insert_above l position (number, v) d (k - 1) (omega (arith, more)) gap.within

    here : (k : ℕ) (d : ℕ × X) → position ≡ k → get_or (insert l position (number, v)) k d ≡ (number, v)
    here k d same = at_index (insert l position (number, v)) k position d (sym same) ∙ get_or-insert_at l position (number, v) d gap.within

    pub sorted_inserted : IsStrictlySorted l → IsStrictlySorted (insert l position (number, v))
    sorted_inserted sorted i j d less within =
        let more = length-insert l position (number, v) gap.within in
        elim (cases_lt i position) [
          | inl i_below ↦
              let first = ap key (get_or-insert_below l position (number, v) d i i_below gap.within) in
              elim (cases_lt j position) [
                | inl j_below ↦
                    let second = ap key (get_or-insert_below l position (number, v) d j j_below gap.within) in
                    let old = sorted i j d less (let g = gap.within in omega (arith, j_below, g)) in
                    omega (arith, first, second, old)
                | inr j_not ↦ elim (cases_lt position j) [
                  | inl j_above ↦
                      let second = ap key (above j d j_above) in
                      let old = sorted i (j - 1) d (omega (arith, i_below, j_above)) (omega (arith, j_above, within, more)) in
                      omega (arith, first, second, old)
                  | inr j_here ↦
                      let second = ap key (here j d (omega (arith, j_not, j_here))) in
                      let old = gap.smaller i d i_below in
                      omega (arith, first, second, old)
                ]
              ]
          | inr i_not ↦
              let second = ap key (above j d (omega (arith, i_not, less))) in
              elim (cases_lt position i) [
                | inl i_above ↦
                    let first = ap key (above i d i_above) in
                    let old = sorted (i - 1) (j - 1) d (omega (arith, i_above, less)) (omega (arith, i_above, less, within, more)) in
                    omega (arith, first, second, old)
                | inr i_here ↦
                    let first = ap key (here i d (omega (arith, i_not, i_here))) in
                    let old = gap.greater (j - 1) d (omega (arith, i_not, less)) (omega (arith, i_not, less, within, more)) in
                    omega (arith, first, second, old)
              ]
        ]

  pub sorted_removed : (l : List (ℕ × X)) (position : ℕ) → position < length l → IsStrictlySorted l → IsStrictlySorted (remove l position)
  sorted_removed l position there sorted i j d less within =
      let fewer = length-remove l position there in
      elim (cases_lt i position) [
        | inl i_below ↦
            let first = ap key (get_or-remove_below l position d i i_below there) in
            elim (cases_lt j position) [
              | inl j_below ↦
                  let second = ap key (get_or-remove_below l position d j j_below there) in
                  let old = sorted i j d less (omega (arith, j_below, there)) in
                  omega (arith, first, second, old)
              | inr j_above ↦
                  let second = ap key (get_or-remove_above l position d j j_above there) in
                  let old = sorted i (j + 1) d (omega (arith, less)) (omega (arith, within, fewer)) in
                  omega (arith, first, second, old)
            ]
        | inr i_above ↦
            let first = ap key (get_or-remove_above l position d i i_above there) in
            let second = ap key (get_or-remove_above l position d j (omega (arith, i_above, less)) there) in
            let old = sorted (i + 1) (j + 1) d (omega (arith, less)) (omega (arith, within, fewer)) in
            omega (arith, first, second, old)
      ]

  -- Replacing the value of an entry changes no key.
  same_key : (l : List (ℕ × X)) (number position : ℕ) (v : X) → IsAt l number position → (k : ℕ) (d : ℕ × X) → (get_or (set l position (number, v)) k d).0 ≡ (get_or l k d).0
  same_key l number position v at k d = elim (cases_lt k position) [
    | inl below ↦ ap key (get_or-set_other l position k (number, v) d (λ same. absurd (omega (arith, below, same))))
    | inr not_below ↦ elim (cases_lt position k) [
      | inl above ↦ ap key (get_or-set_other l position k (number, v) d (λ same. absurd (omega (arith, above, same))))
      | inr not_above ↦
          let same : k ≡ position = omega (arith, not_below, not_above) in
          subst (λ j. (get_or (set l position (number, v)) j d).0 ≡ (get_or l j d).0) (sym same) (ap key (get_or-set_same l position (number, v) d at.within) ∙ sym (at.same d))
    ]
  ]

  pub sorted_written : (l : List (ℕ × X)) (number position : ℕ) (v : X) → IsAt l number position → IsStrictlySorted l → IsStrictlySorted (set l position (number, v))
  sorted_written l number position v at sorted i j d less within =
      let first = same_key l number position v at i d in
      let second = same_key l number position v at j d in
      let same = length-set l position (number, v) in
      let old = sorted i j d less (omega (arith, within, same)) in
      omega (arith, first, second, old)
