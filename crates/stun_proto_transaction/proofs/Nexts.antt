-- The earliest next time.
use Rattle.std.proofs.Common.{◌≡◌, ℕ, zero, suc, ◌<◌, ◌≤◌, Bool, true, false, List, [], ◌∷◌, length, get_or, Some, refl, sym, ap, ◌∙◌, subst, inl, inr, ◌⊎◌, arith}
use Rattle.std.specs.Prelude.{max, min, nat_le, ◌||◌, if◌then◌else◌}
use Rattle.std.specs.FinMap as finite
use Rattle.std.proofs.lemmas.Bool.{cases_lt}
use Rattle.std.proofs.lemmas.List.Elements.{All-get_or}
use Rattle.std.proofs.lemmas.Grind.{get_or_default_zero}
use Rattle.stun_types_message.specs.Base.Times.{greatest_time}
use Rattle.stun_proto_transaction.specs.Schedule.{end_at}
use Rattle.stun_proto_transaction.proofs.Slots.{slot_before_end}
use Rattle.stun_proto_transaction.specs.Agents.{Transaction, ends_from, has_left, is_ended, is_over, next_time, next_slot, sends_from}
use Rattle.stun_proto_transaction.specs.Least.{IsLeastOf}
use Rattle.stun_proto_transaction.specs.StoredRequests.{IsNext, NoneEnded, Requests}
use Rattle.stun_proto_transaction.specs.Sound.{IsSound}
use Rattle.stun_proto_transaction.proofs.Firsts.{ends_at, ends_length, sends_at, sends_length}
use Rattle.stun_proto_transaction.proofs.Maps.{present_at, present_map}
use Rattle.stun_proto_transaction.proofs.Sounds.{Entry}
use Rattle.stun_proto_transaction.proofs.Views.{got, visible}

not_over : (a b : Bool) → (a || b) ≡ false → a ≡ false
not_over true b is = absurd (Prim.cc is)
not_over false b is = refl

-- The earlier of the two stored times of a request that has not ended is its next time.
stored_next : (tcp : Bool) (now : ℕ) (t : Transaction) → is_ended now t ≡ false → min (sends_from tcp t) (ends_from t) ≡ next_time tcp t
stored_next tcp now t going =
    let open_end : ends_from t ≡ end_at t.sent t.waits = ap (λ b. if b then 0 else end_at t.sent t.waits) (not_over (is_over t.cancelled) (nat_le (end_at t.sent t.waits) now) going) in
    elim (has_left tcp t) as (λ b. has_left tcp t ≡ b → min (if b then next_slot t else greatest_time) (ends_from t) ≡ (if b then next_slot t else end_at t.sent t.waits)) [
      | true ↦ λ left. let before = slot_before_end tcp t left in omega (arith, before, open_end)
      | false ↦ λ none. let most : end_at t.sent t.waits ≤ greatest_time = omega arith in omega (arith, most, open_end)
    ] refl

-- The entry at an index does not depend on the default.
entry_at : (es : List Entry) (k : ℕ) → k < length es → (e : Entry) × ((d : Entry) → get_or es k d ≡ e)
entry_at [] k less = absurd (omega (arith, less))
entry_at (x ∷ es) zero less = (x, λ d. refl)
entry_at (x ∷ es) (suc k) less = entry_at es k (omega (arith, less))

module _ (tcp : Bool) (es : List Entry) (sends ends : List ℕ) (sound : IsSound tcp es sends ends) (old : Requests) (view_is : visible tcp es ≡ old) (now most a b : ℕ)
    (none : NoneEnded old now) (later : now ≤ most) (small : most ≤ greatest_time) (least_a : IsLeastOf greatest_time sends a) (least_b : IsLeastOf greatest_time ends b) where
  -- The stored times of a request give its next time, and the two least times are not later than they are.
  at_entry : (k : ℕ) (e : Entry) → k < length es → ((d : Entry) → get_or es k d ≡ e) → is_ended now e.1 ≡ false
      → record { next : min (sends_from tcp e.1) (ends_from e.1) ≡ next_time tcp e.1; sends : get_or sends k 0 ≡ sends_from tcp e.1; ends : get_or ends k 0 ≡ ends_from e.1; first : a ≤ sends_from tcp e.1; second : b ≤ ends_from e.1 }
  at_entry k e less is going =
      let here = sends_at tcp es sends ends sound k e less ∙ ap (λ (x : Entry). sends_from tcp x.1) (is e) in
      let there = ends_at tcp es sends ends sound k e less ∙ ap (λ (x : Entry). ends_from x.1) (is e) in
      let lower = All-get_or (λ n. a ≤ n) sends k 0 (let same = sends_length tcp es sends ends sound in omega (arith, same, less)) least_a.below in
      let lower_end = All-get_or (λ n. b ≤ n) ends k 0 (let same = ends_length tcp es sends ends sound in omega (arith, same, less)) least_b.below in
      record { next = stored_next tcp now e.1 going; sends = here; ends = there; first = omega (arith, here, lower); second = omega (arith, there, lower_end) }

  present : (k : ℕ) (e : Entry) → k < length es → ((d : Entry) → get_or es k d ≡ e) → finite.get old.by_number e.0 ≡ Some e.1
  present k e less is =
      got tcp es old view_is e.0 ∙ present_map es e.0 k e (record { within = less; same = λ d. ap (λ (x : Entry). x.0) (is d) }) sound.sorted ∙ ap (λ (x : Entry). Some x.1) (is e)

  abbrev Reached : ℕ → Type 0
  Reached until = (until ≡ most) ⊎ ((number : ℕ) × (t : Transaction) × (finite.get old.by_number number ≡ Some t) × (until ≡ max now (next_time tcp t)))

  by_entry : (k : ℕ) → k < length es → min a b < most → ((a ≤ b) × (get_or sends k 0 ≡ a)) ⊎ ((b ≤ a) × (get_or ends k 0 ≡ b)) → Reached (max now (min most (min a b)))
  by_entry k less before which =
      let found = entry_at es k less in
      let there = present k found.0 less found.1 in
      let facts = at_entry k found.0 less found.1 (none found.0.0 found.0.1 there) in
      let next = facts.next in
      let sends_is = facts.sends in
      let ends_is = facts.ends in
      let first = facts.first in
      let second = facts.second in
      inr (
        found.0.0,
        found.0.1,
        there,
        elim which [
          | inl w ↦ (let order = w.0 in let own = w.1 in omega (arith, before, order, own, next, sends_is, first, second))
          | inr w ↦ (let order = w.0 in let own = w.1 in omega (arith, before, order, own, next, ends_is, first, second))
        ],
      )

  reached : Reached (max now (min most (min a b)))
  reached = elim (cases_lt (min a b) most) [
    | inr not_before ↦ inl (let all : max now (min most (min a b)) ≡ most = omega (arith, not_before, later) in all)
    | inl before ↦ elim (cases_lt b a) [
      | inl b_less ↦ elim least_b.reached [
        | inl never ↦ absurd (omega (arith, never, before, b_less, small))
        | inr at ↦ by_entry at.0 (let same = ends_length tcp es sends ends sound in let w = at.1 in omega (arith, same, w)) before (inr ((let le : b ≤ a = omega (arith, b_less) in le), sym (get_or_default_zero ends at.0 b at.1) ∙ at.2))
      ]
      | inr a_least ↦ elim least_a.reached [
        | inl never ↦ absurd (omega (arith, never, before, a_least, small))
        | inr at ↦ by_entry at.0 (let same = sends_length tcp es sends ends sound in let w = at.1 in omega (arith, same, w)) before (inl (a_least, sym (get_or_default_zero sends at.0 a at.1) ∙ at.2))
      ]
    ]
  ]

  no_later : (number : ℕ) (t : Transaction) → finite.get old.by_number number ≡ Some t → max now (min most (min a b)) ≤ max now (next_time tcp t)
  no_later number t there =
      let found = present_at es number t (sym (got tcp es old view_is number) ∙ there) in
      let facts = at_entry found.0 (number, t) found.1 found.2 (none number t there) in
      let next = facts.next in
      let first = facts.first in
      let second = facts.second in
      omega (arith, next, first, second)

  pub next_is : (until : ℕ) → until ≡ max now (min most (min a b)) → IsNext old now most until
  next_is until is =
      let same : tcp ≡ old.is_tcp = ap (λ (r : Requests). r.is_tcp) view_is in
      record {
        from_now = omega (arith, is);
        within = omega (arith, is, later);
        no_later = λ number t there. subst (λ p. until ≤ max now (next_time p t)) same (let all = no_later number t there in omega (arith, is, all));
        reached = subst (λ p. (until ≡ most) ⊎ ((number : ℕ) × (t : Transaction) × (finite.get old.by_number number ≡ Some t) × (until ≡ max now (next_time p t)))) same (subst Reached (sym is) reached);
      }
