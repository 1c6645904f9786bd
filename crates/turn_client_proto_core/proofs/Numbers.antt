-- Transaction IDs.
use Rattle.std.proofs.Common.{◌≡◌, ℕ, ◌+◌, ◌-◌, ◌%◌, ◌^◌, ◌<◌, ◌≤◌, Bool, true, false, Option, Some, None, ltb, arith, refl, sym, ap, ◌∙◌, subst, inl, inr}
use Rattle.std.specs.Prelude.{◌||◌, is_some}
use Rattle.std.specs.FinMap as map
use Rattle.std.proofs.lemmas.Bool.{cases_Bool, ltb-false, ltb-true}
use Rattle.std.proofs.Math.Nat.{add-mod_left, mod-add-mod, mod-eq_of_lt, mod-lt}
use Rattle.rand_chacha.specs.ChaCha.{ChaCha}
use Rattle.turn_client_proto_allocation.specs.Listed.{is_any_awaited}
use Rattle.stun_proto_agent.specs.State.{Agent}
use Rattle.turn_client_proto_core.specs.Numbering.{AreAllTaken, IsFirstFree, IsUnused, after_number, awaits, following, is_taken}
use Rattle.turn_client_proto_core.specs.declared.protocol.Protocol.{Protocol}

-- Which transaction IDs are in use doesn't depend on the generator.
same_taken : (p : Protocol) (rng : ChaCha) (number : ℕ) → is_taken (record p { rng = rng }) number ≡ is_taken p number
unfolding is_taken
same_taken p rng number = refl

pub still_first : (p : Protocol) (rng : ChaCha) (from first number : ℕ) → from ≡ first → IsFirstFree (record p { rng = rng }) from number → IsFirstFree p first number
still_first p rng from first number same is = record {
  steps = is.steps;
  is = is.is ∙ ap (λ (n : ℕ). following n is.steps) same;
  passed = λ k less. ap (λ (n : ℕ). is_taken p (following n k)) (sym same) ∙ sym (same_taken p rng (following from k)) ∙ is.passed k less;
  free = sym (same_taken p rng number) ∙ is.free;
}

-- From any number below a bound, every other number below it is reached in fewer steps than the bound, modulo
-- the bound.
steps_to : (from number bound : ℕ) → from < bound → number < bound → (k : ℕ) × (k < bound) × ((from + k) % bound ≡ number)
steps_to from number bound here there =
    elim (cases_Bool (ltb number from)) [
      | inl before ↦
          let less : number < from = ltb-true number from before in
          let around : from + (bound - from + number) ≡ bound + number = omega (arith, here) in
          (bound - from + number, omega (arith, here, less), rw around (add-mod_left bound number ∙ mod-eq_of_lt there))
      | inr beyond ↦
          let most : from ≤ number = ltb-false number from beyond in
          let up : from + (number - from) ≡ number = omega (arith, most) in
          (number - from, omega (arith, there, most), rw up (mod-eq_of_lt there))
    ]

-- If the first 2^96 transaction IDs from `from` on are in use, all of them are.
pub all_taken : (p : Protocol) (from : ℕ) → ((k : ℕ) → k < 2 ^ 96 → is_taken p (following from k) ≡ true) → AreAllTaken p
all_taken p from passed = λ number there.
    let steps = steps_to (from % 2 ^ 96) number (2 ^ 96) (mod-lt from (omega arith)) there in
    subst (λ (n : ℕ). is_taken p n ≡ true) (sym (mod-add-mod from (2 ^ 96) steps.0) ∙ steps.2) (passed steps.0 steps.1)

pub still_all : (p : Protocol) (rng : ChaCha) → AreAllTaken (record p { rng = rng }) → AreAllTaken p
still_all p rng all = λ number there. sym (same_taken p rng number) ∙ all number there

-- No request with the generated transaction ID is outstanding.
none_there : {A : Type 0} (found : Option A) (awaited : Bool) → (is_some found || awaited) ≡ false → found ≡ None
none_there None awaited free = refl
none_there (Some x) awaited free = cc

pub unused : (old new : Protocol) (from number : ℕ) → IsFirstFree old from number → new ≡ after_number old → IsUnused new.agent number
unfolding is_taken
unused old new from number first after =
    let here : IsUnused old.agent number = record {
      fits = subst (λ (n : ℕ). n < 2 ^ 96) (sym first.is) (mod-lt (from + first.steps) (omega arith));
      none = none_there (map.get old.agent.outstanding number) (awaits number old.phase || is_any_awaited number old.allocations) first.free;
    } in
    subst (λ (a : Agent). IsUnused a number) (sym (ap (λ (p : Protocol). p.agent) after)) here
