-- Times before and after others.
use Rattle.std.proofs.Common.{◌≡◌, ℕ, ◌<◌, ◌≤◌, ◌⊎◌, arith, Bool, true, false, inl, inr, refl, sym, ap, ◌∙◌, subst}
use Rattle.std.specs.Prelude.{nat_lt, not, ◌&&◌, ◌||◌}
use Rattle.std.proofs.lemmas.Bool.{cases_Bool, le-ltb, lt-ltb, ltb-false, ltb-true}
use Rattle.turn_desk_progress_laws.specs.Renewals.{IsBefore}

pub order : (a b : ℕ) → (a < b) ⊎ (b ≤ a)
order a b = elim (cases_Bool (nat_lt a b)) [
  | inl less ↦ inl (ltb-true a b less)
  | inr not_less ↦ inr (ltb-false a b not_less)
]

pub not_later : (transmitted : Bool) (until next : ℕ) → IsBefore transmitted until next → until ≤ next
not_later true until next before = omega (arith, before)
not_later false until next before = before

pub sooner : (transmitted : Bool) (until next later : ℕ) → next ≤ later → IsBefore transmitted until next → IsBefore transmitted until later
sooner true until next later less before = omega (arith, less, before)
sooner false until next later less before = omega (arith, less, before)

-- Nothing was transmitted at a time before the next one.
pub strictly : (transmitted : Bool) (now until next : ℕ) → IsBefore transmitted until next → now < next → IsBefore (transmitted || not (nat_lt now until)) until next
strictly true now until next before soon = before
strictly false now until next before soon = elim (order now until) [
  | inl less ↦ subst (λ (x : Bool). IsBefore (not x) until next) (sym (lt-ltb now until less)) before
  | inr more ↦ (let l : until < next = omega (arith, more, soon, before) in subst (λ (x : Bool). IsBefore (not x) until next) (sym (le-ltb now until more)) l)
]

-- If nothing is left to be polled, the client waits for a later time.
pub not_stuck : (reported transmitted : Bool) (now until next time : ℕ) → IsBefore transmitted until next → now ≤ until → (reported ≡ true → now < next → now < time)
    → ((reported && (transmitted || nat_lt now until)) && not (nat_lt now time)) ≡ false
not_stuck false transmitted now until next time before reached later = refl
not_stuck true true now until next time before reached later =
    ap not (lt-ltb now time (later refl (omega (arith, before, reached))))
not_stuck true false now until next time before reached later = elim (order now until) [
  | inl less ↦ (let l = later refl (omega (arith, less, before)) in
      ap (λ (x : Bool). x && not (nat_lt now time)) (lt-ltb now until less) ∙ ap not (lt-ltb now time l))
  | inr more ↦ ap (λ (x : Bool). x && not (nat_lt now time)) (le-ltb now until more)
]
