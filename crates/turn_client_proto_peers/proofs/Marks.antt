-- Marks for channel numbers, and the least number without a mark.
use Rattle.std.proofs.Common.{◌≡◌, ℕ, ◌≤◌, Bool, true, false, ◌||◌, List, Option, Some, None, refl, sym, ◌∙◌, ap, arith, inl, inr}
use Rattle.std.proofs.lemmas.Bool.Decides.{leb_tells}
use Rattle.turn_types_attributes.specs.TurnRegistry.{greatest_channel, least_channel}
use Rattle.turn_client_proto_allocation.specs.declared.allocation.Allocation.{Allocation}
use Rattle.turn_client_proto_peers.specs.Channel.Numbers.{AreMarked, IsLeastFree, IsLeastUntaken, is_marked, is_taken}

or_three : (a b c d : Bool) → (((a || b) || c) || d) ≡ (a || (b || (c || d)))
or_three true b c d = refl
or_three false true c d = refl
or_three false false c d = refl

-- Three kinds of marks, set one after another.
pub mark_three : (one two three : ℕ → Bool) (a b c d : List Bool) → AreMarked one a b → AreMarked two b c → AreMarked three c d
    → AreMarked (λ n. one n || (two n || three n)) a d
mark_three one two three a b c d first second third n least most =
    third n least most
    ∙ ap (λ m. m || three n) (second n least most ∙ ap (λ m. m || two n) (first n least most))
    ∙ or_three (is_marked a n) (one n) (two n) (three n)

-- If two tests agree on all numbers, the least number that is not taken is the same for both.
pub least_alike : (f g : ℕ → Bool) (free : Option ℕ) → ((n : ℕ) → least_channel ≤ n → n ≤ greatest_channel → f n ≡ g n) → IsLeastUntaken f free → IsLeastUntaken g free
least_alike f g None same is = λ n least most. sym (same n least most) ∙ is n least most
least_alike f g (Some number) same is =
    (is.0, is.1, sym (same number is.0 is.1) ∙ is.2, λ n least less. sym (same n least (omega (arith, less, is.1))) ∙ is.3 n least less)

-- There is only one least number that is not taken.
pub least_is_one : (f : ℕ → Bool) (x y : Option ℕ) → IsLeastUntaken f x → IsLeastUntaken f y → x ≡ y
least_is_one f None None one other = refl
least_is_one f None (Some n) one other = absurd (let e = sym (one n other.0 other.1) ∙ other.2 in Prim.cc e)
least_is_one f (Some m) None one other = absurd (let e = sym (other m one.0 one.1) ∙ one.2 in Prim.cc e)
least_is_one f (Some m) (Some n) one other =
    elim (leb_tells m n) [
      | inl least ↦ elim (leb_tells n m) [
        | inl most ↦ ap (λ (k : ℕ). Some k) (let e : m ≡ n = omega (arith, least.1, most.1) in e)
        | inr less ↦ absurd (let e = sym (other.3 m one.0 less.1) ∙ one.2 in Prim.cc e)
      ]
      | inr less ↦ absurd (let e = sym (one.3 n other.0 less.1) ∙ other.2 in Prim.cc e)
    ]

pub least_free_is_one : (all : List Allocation) (now : ℕ) (x y : Option ℕ) → IsLeastFree all now x → IsLeastFree all now y → x ≡ y
least_free_is_one all now x y one other = least_is_one (λ n. is_taken n now all) x y one other
