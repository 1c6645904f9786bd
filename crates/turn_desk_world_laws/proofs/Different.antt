-- Transaction IDs of a stream that are inserted into a set, one after another, as long as each is new.
use Rattle.std.proofs.Common.{◌≡◌, ◌≢◌, ℕ, ◌+◌, ◌*◌, ◌<◌, Bool, true, false, not, cond, [], refl, sym, ap, ◌∙◌, subst, arith, inl, inr, below_more}
use Rattle.std.specs.Ordering.{nat_cmp}
use Rattle.std.specs.BTreeMap.{is_at}
use Rattle.std.specs.BTreeSet.{BTreeSet, Updates, contains}
use Rattle.std.specs.List.{list_any}
use Rattle.std.proofs.lemmas.Bool.{both_ways, cases_Bool, not-false, not-true}
use Rattle.std.proofs.lemmas.Grind.{common_steps}
use Rattle.rand_core.specs.Stream.{Stream}
use Rattle.stun_types_base.specs.GeneratorWords.{stream_after}
use Rattle.stun_types_wire.specs.Generated.{number_words}
use Rattle.stun_types_base.proofs.WordLemmas.{stream_after-add}

-- The first `count` numbers of the sequence differ.
abbrev pub Differ : (number : ℕ → ℕ) (count : ℕ) → Type 0
Differ number count = (i j : ℕ) → i < j → j < count → number i ≢ number j

-- The set has the first `count` numbers of the sequence, and no others.
pub record HasFirst (number : ℕ → ℕ) (s : BTreeSet ℕ) (count : ℕ) : Type 0 where
  pub each : (k : ℕ) → k < count → contains nat_cmp s (number k) ≡ true
  pub only : (q : ℕ) → contains nat_cmp s q ≡ true → (k : ℕ) × (k < count) × (number k ≡ q)

pub has_none : (number : ℕ → ℕ) (s : BTreeSet ℕ) → s.keys ≡ [] → HasFirst number s 0
has_none number s empty = record {
  each = λ k h. absurd (omega arith);
  only = λ q there. absurd (both_ways (list_any (is_at (nat_cmp q)) s.keys) (ap (list_any (is_at (nat_cmp q))) empty) there);
}

at_equal : (x q : ℕ) → is_at (nat_cmp x) q ≡ true → x ≡ q
at_equal x q is = grind (arith, common_steps)

either : (b : Bool) → cond b true true ≡ true
either true = refl
either false = refl

module _ (number : ℕ → ℕ) (s : BTreeSet ℕ) (count : ℕ) (has : HasFirst number s count) where
  one_more : (new : BTreeSet ℕ) → Updates nat_cmp s new (number count) true → HasFirst number new (count + 1)
  one_more new is = record {
    each = below_more (λ (k : ℕ). contains nat_cmp new (number k) ≡ true) count
        (λ k h. is.0 (number k) ∙ ap (λ (b : Bool). cond (is_at (nat_cmp (number count)) (number k)) true b) (has.each k h) ∙ either (is_at (nat_cmp (number count)) (number k)))
        is.1;
    only = λ q there. elim (cases_Bool (is_at (nat_cmp (number count)) q)) [
      | inl same ↦ (count, omega arith, at_equal (number count) q same)
      | inr other ↦
          let old = has.only q (sym (is.2 q other) ∙ there) in
          (old.0, omega (arith, old.1), old.2)
    ];
  }

  still_differ : contains nat_cmp s (number count) ≡ false → Differ number count → Differ number (count + 1)
  still_differ lacks differ i j below small =
      below_more (λ (at : ℕ). (first : ℕ) → first < at → number first ≢ number at) count
      (λ at h first lower. differ first at lower h)
      (λ first lower same. both_ways (contains nat_cmp s (number count)) lacks (sym (ap (λ (n : ℕ). contains nat_cmp s n) same) ∙ has.each first lower))
      j small i below

  -- The next number is inserted. `added` says whether it is new.
  module _ (key : ℕ) (next : key ≡ number count) (added : Bool) (is_new : added ≡ not (contains nat_cmp s key)) where
    pub inserted : (new : BTreeSet ℕ) → Updates nat_cmp s new key true → HasFirst number new (count + 1)
    inserted new is = one_more new (subst (λ (k : ℕ). Updates nat_cmp s new k true) next is)

    pub new_differs : added ≡ true → Differ number count → Differ number (count + 1)
    new_differs true_now = still_differ (subst (λ (k : ℕ). contains nat_cmp s k ≡ false) next (not-true (contains nat_cmp s key) (sym is_new ∙ true_now)))

    -- A number that is not new is equal to an earlier one.
    pub repeats : added ≡ false → (total : ℕ) → count < total → Differ number total → ⊥
    repeats false_now total small differ =
        let old = has.only (number count) (subst (λ (k : ℕ). contains nat_cmp s k ≡ true) next (not-false (contains nat_cmp s key) (sym is_new ∙ false_now))) in
        differ old.0 count old.1 small old.2

-- The words that are left after one more transaction ID.
pub three_more : (count : ℕ) (seed now new : Stream) → now ≡ stream_after (number_words * count) seed → new ≡ stream_after number_words now → new ≡ stream_after (number_words * (count + 1)) seed
three_more count seed now new at is =
    let words : 3 * count + 3 ≡ 3 * (count + 1) = omega arith in
    is ∙ ap (stream_after number_words) at ∙ sym (stream_after-add (3 * count) 3 seed) ∙ ap (λ (n : ℕ). stream_after n seed) words
