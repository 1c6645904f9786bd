-- The least of some numbers is determined.
use Rattle.std.proofs.Common.{◌≡◌, ℕ, ◌≤◌, arith, Bool, List, sym, ap, ◌∙◌, inl, inr}
use Rattle.std.proofs.lemmas.List.Elements.{All-contains}
use Rattle.std.specs.FinMap as map
use Rattle.std.specs.Ordering.{nat_cmp}
use Rattle.turn_client_proto_timers.specs.StunProtoTransaction.Least.{IsLeast, IsLeastOf}
use Rattle.turn_client_proto_step_laws.proofs.Once.Outcomes.{some_some}

no_greater : (most : ℕ) (numbers : List ℕ) (a b : ℕ) → IsLeastOf most numbers a → IsLeastOf most numbers b → a ≤ b
no_greater most numbers a b x y = elim y.reached [
  | inl is ↦ omega (arith, is, x.within)
  | inr among ↦ All-contains (λ (n : ℕ). a ≤ n) numbers b x.below among
]

pub least_of_same : (most : ℕ) (numbers : List ℕ) (a b : ℕ) → IsLeastOf most numbers a → IsLeastOf most numbers b → a ≡ b
least_of_same most numbers a b x y =
    let less = no_greater most numbers a b x y in
    let more = no_greater most numbers b a y x in
    omega (arith, less, more)

module _ {X : Type 0} (test : X → Bool) (entries : map.FinMap nat_cmp X) where
  pub least_number : (number other : ℕ) (x y : X) → IsLeast test entries number x → IsLeast test entries other y → number ≡ other
  least_number number other x y a b =
      let less = a.least other y b.present b.passes in
      let more = b.least number x a.present a.passes in
      omega (arith, less, more)

  pub least_value : (number other : ℕ) (x y : X) → IsLeast test entries number x → IsLeast test entries other y → x ≡ y
  least_value number other x y a b =
      some_some x y (map.get entries other) (ap (map.get entries) (sym (least_number number other x y a b)) ∙ a.present) b.present
