-- The invariant of a list of times after each change.
use Rattle.std.proofs.Common.{◌≡◌, ℕ, ◌+◌, ◌-◌, ◌<◌, ◌≤◌, Bool, true, List, length, get_or, set, sym, ap, subst, ◌∙◌, inl, inr, arith, ◌⊎◌}
use Rattle.std.specs.List.{insert, remove}
use Rattle.std.proofs.lemmas.Bool.{cases_lt}
use Rattle.std.proofs.lemmas.List.{get_or-set_same, get_or-set_other, length-set}
use Rattle.std.proofs.lemmas.List.Edits.{length-insert, get_or-insert_below, get_or-insert_at, get_or-insert_above, length-remove, get_or-remove_below, get_or-remove_above}
use Rattle.stun_types_message.specs.Base.Times.{greatest_time}
use Rattle.stun_proto_transaction.specs.Watched.{IsBelow, IsStored, IsReached}

-- The times at two equal indices are equal.
at_index : (times : List ℕ) (k j : ℕ) → k ≡ j → get_or times k 0 ≡ get_or times j 0
at_index times k j same = ap (λ i. get_or times i 0) same

module _ (times : List ℕ) (position time : ℕ) (within : position ≤ length times) where
  new : List ℕ
  new = insert times position time

  above : (k : ℕ) → position < k → get_or (insert times position time) k 0 ≡ get_or times (k - 1) 0
  above k more = at_index (insert times position time) k (k - 1 + 1) (omega (arith, more)) ∙ get_or-insert_above times position time 0 (k - 1) (omega (arith, more)) within

  here : (k : ℕ) → position ≡ k → get_or (insert times position time) k 0 ≡ time
  here k same = at_index (insert times position time) k position (sym same) ∙ get_or-insert_at times position time 0 within

  -- A lower bound on the times before the cursor and on the inserted one is a lower bound after the
  -- insertion.
  below_inserted : (passed least : ℕ) → position ≤ passed → least ≤ time → IsBelow times passed least → IsBelow (insert times position time) (passed + 1) least
  below_inserted passed least before one all k less = elim (cases_lt k position) [
    | inl lower ↦ let same = get_or-insert_below times position time 0 k lower within in let old = all k (omega (arith, lower, before)) in omega (arith, same, old)
    | inr not_lower ↦ elim (cases_lt position k) [
      | inl higher ↦ let same = above k higher in let old = all (k - 1) (omega (arith, higher, less)) in omega (arith, same, old)
      | inr not_higher ↦ let same = here k (omega (arith, not_lower, not_higher)) in omega (arith, same, one)
    ]
  ]

  -- A bound that is one of the times is so after an insertion.
  reached_inserted : (passed least : ℕ) → position ≤ passed → IsReached times passed least → IsReached (insert times position time) (passed + 1) least
  reached_inserted passed least before (inl most) = inl most
  reached_inserted passed least before (inr (k, less, is)) = elim (cases_lt k position) [
    | inl lower ↦ inr (k, (let some : k < passed + 1 = omega (arith, less) in some), get_or-insert_below times position time 0 k lower within ∙ is)
    | inr higher ↦ inr (k + 1, (let some : k + 1 < passed + 1 = omega (arith, less) in some), get_or-insert_above times position time 0 k higher within ∙ is)
  ]

  pub inserted_least : (passed least : ℕ) (exact : Bool) → IsStored times passed least exact → position ≤ passed → time ≤ least → IsStored (insert times position time) (passed + 1) time true
  inserted_least passed least exact stored before lower = record {
    within = (let more = length-insert times position time within in let old = stored.within in (let all : passed + 1 ≤ length (insert times position time) = omega (arith, more, old) in all));
    most = (let old = stored.most in (let all : time ≤ greatest_time = omega (arith, old, lower) in all));
    below = below_inserted passed time before (omega arith) (λ k less. let old = stored.below k less in omega (arith, old, lower));
    reached = λ _. inr (position, (let some : position < passed + 1 = omega (arith, before) in some), get_or-insert_at times position time 0 within);
  }

  pub inserted_later : (passed least : ℕ) (exact : Bool) → IsStored times passed least exact → position ≤ passed → least < time → IsStored (insert times position time) (passed + 1) least exact
  inserted_later passed least exact stored before later = record {
    within = (let more = length-insert times position time within in let old = stored.within in (let all : passed + 1 ≤ length (insert times position time) = omega (arith, more, old) in all));
    most = stored.most;
    below = below_inserted passed least before (omega (arith, later)) stored.below;
    reached = λ is. reached_inserted passed least before (stored.reached is);
  }

module _ (times : List ℕ) (position : ℕ) (within : position < length times) where
  below_removed : (passed least : ℕ) → position < passed → IsBelow times passed least → IsBelow (remove times position) (passed - 1) least
  below_removed passed least before all k less = elim (cases_lt k position) [
    | inl lower ↦ let same = get_or-remove_below times position 0 k lower within in let old = all k (omega (arith, less)) in omega (arith, same, old)
    | inr higher ↦ let same = get_or-remove_above times position 0 k higher within in let old = all (k + 1) (omega (arith, less)) in omega (arith, same, old)
  ]

  -- A bound that is another time than the removed one is still one of the times.
  reached_removed : (passed least : ℕ) → position < passed → (least < get_or times position 0) ⊎ (greatest_time ≤ get_or times position 0) → least ≤ greatest_time → IsReached times passed least → IsReached (remove times position) (passed - 1) least
  reached_removed passed least before other most (inl same) = inl same
  reached_removed passed least before other most (inr (k, less, is)) = elim (cases_lt k position) [
    | inl lower ↦ inr (k, (let some : k < passed - 1 = omega (arith, less, lower, before) in some), get_or-remove_below times position 0 k lower within ∙ is)
    | inr not_lower ↦ elim (cases_lt position k) [
      | inl higher ↦ inr (k - 1, (let some : k - 1 < passed - 1 = omega (arith, less, higher) in some), get_or-remove_above times position 0 (k - 1) (omega (arith, higher)) within ∙ at_index times (k - 1 + 1) k (omega (arith, higher)) ∙ is)
      | inr not_higher ↦
          let same = at_index times position k (omega (arith, not_lower, not_higher)) in
          elim other [
            | inl later ↦ absurd (omega (arith, later, same, is))
            | inr never ↦ inl (let all : least ≡ greatest_time = omega (arith, never, same, is, most) in all)
          ]
    ]
  ]

  pub removed_later : (passed least : ℕ) (exact : Bool) → IsStored times passed least exact → position < passed → (least < get_or times position 0) ⊎ (greatest_time ≤ get_or times position 0) → IsStored (remove times position) (passed - 1) least exact
  removed_later passed least exact stored before other = record {
    within = (let fewer = length-remove times position within in let old = stored.within in (let all : passed - 1 ≤ length (remove times position) = omega (arith, fewer, old) in all));
    most = stored.most;
    below = below_removed passed least before stored.below;
    reached = λ is. reached_removed passed least before other stored.most (stored.reached is);
  }

  pub set_least : (passed least time : ℕ) (exact : Bool) → IsStored times passed least exact → position < passed → time ≤ least → IsStored (set times position time) passed time true
  set_least passed least time exact stored before lower = record {
    within = (let same = length-set times position time in let old = stored.within in (let all : passed ≤ length (set times position time) = omega (arith, same, old) in all));
    most = (let old = stored.most in (let all : time ≤ greatest_time = omega (arith, old, lower) in all));
    below = λ k less. grind (arith, get_or-set_same times position time 0 within, get_or-set_other times position k time 0, stored.below k less);
    reached = λ _. inr (position, before, get_or-set_same times position time 0 within);
  }

module _ (times : List ℕ) (passed : ℕ) (within : passed < length times) where
  -- What holds for the times before an index and for the one at it holds for all up to it.
  up_to : (P : ℕ → Type 0) → ((k : ℕ) → k < passed → P (get_or times k 0)) → P (get_or times passed 0) → (k : ℕ) → k < passed + 1 → P (get_or times k 0)
  up_to P all here k less = elim (cases_lt k passed) [
    | inl lower ↦ all k lower
    | inr not_lower ↦ subst P (sym (at_index times k passed (omega (arith, less, not_lower)))) here
  ]

  pub all_later : (now time : ℕ) → ((k : ℕ) → k < passed → now < get_or times k 0) → get_or times passed 0 ≡ time → now < time → (k : ℕ) → k < passed + 1 → now < get_or times k 0
  all_later now time all is later = up_to (λ m. now < m) all (omega (arith, is, later))

  -- If the next time is not later than the bound, it becomes the bound.
  pub passed_lower : (least time : ℕ) (exact : Bool) → IsStored times passed least exact → get_or times passed 0 ≡ time → time ≤ least → IsStored times (passed + 1) time true
  passed_lower least time exact stored is lower = record {
    within = omega (arith, within);
    most = (let old = stored.most in (let all : time ≤ greatest_time = omega (arith, old, lower) in all));
    below = up_to (λ m. time ≤ m) (λ k less. let old = stored.below k less in omega (arith, old, lower)) (omega (arith, is));
    reached = λ _. inr (passed, (let some : passed < passed + 1 = omega arith in some), is);
  }

  -- If the next time is later than the bound, the bound stays.
  pub passed_later : (least time : ℕ) (exact : Bool) → IsStored times passed least exact → get_or times passed 0 ≡ time → least < time → IsStored times (passed + 1) least exact
  passed_later least time exact stored is later = record {
    within = omega (arith, within);
    most = stored.most;
    below = up_to (λ m. least ≤ m) stored.below (omega (arith, is, later));
    reached = λ reported. elim (stored.reached reported) [
      | inl most ↦ inl most
      | inr (k, less, same) ↦ inr (k, (let some : k < passed + 1 = omega (arith, less) in some), same)
    ];
  }
