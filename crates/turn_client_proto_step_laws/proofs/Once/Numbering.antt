-- The next transaction ID is determined.
use Rattle.std.proofs.Common.{◌≡◌, ℕ, ◌<◌, Bool, true, sym, ap, ◌∙◌, inl, inr}
use Rattle.std.proofs.lemmas.Bool.{cases_order}
use Rattle.turn_client_proto_timers.specs.Core.Numbering.{IsFirstFree, IsNextNumber, following, generated, is_taken}
use Rattle.turn_client_proto_timers.specs.Core.Outcomes.{IsHandled}
use Rattle.turn_client_proto_timers.specs.Core.declared.protocol.Protocol.{Protocol}

-- The longer search passes the ID at which the shorter one ends, so that ID is taken.
no_shorter : (p : Protocol) (from number other : ℕ) (a : IsFirstFree p from number) (b : IsFirstFree p from other) → a.steps < b.steps → ⊥
no_shorter p from number other a b less =
    let taken : is_taken p number ≡ true = ap (is_taken p) a.is ∙ b.passed a.steps less in
    absurd (Prim.cc (sym taken ∙ a.free))

pub first_same : (p : Protocol) (from number other : ℕ) → IsFirstFree p from number → IsFirstFree p from other → number ≡ other
first_same p from number other a b =
    elim (cases_order a.steps b.steps) [
      | inl same ↦ a.is ∙ ap (following from) same ∙ sym b.is
      | inr apart ↦ elim apart [
        | inl less ↦ absurd (no_shorter p from number other a b less)
        | inr more ↦ absurd (no_shorter p from other number b a more)
      ]
    ]

pub next_same : (p : Protocol) (number other : ℕ) → IsNextNumber p number → IsNextNumber p other → number ≡ other
next_same p number other a b = first_same p (generated p.rng) number other a b

-- What is handled by a request with the next transaction ID.
pub numbered : (p : Protocol) (after : ℕ → Protocol) (number other : ℕ) (handled again : Bool) (one two : Protocol) → IsNextNumber p number → IsNextNumber p other
    → IsHandled (after number) handled one → IsHandled (after other) again two → (handled ≡ again) × (one ≡ two)
numbered p after number other handled again one two a b x y = (x.0 ∙ sym y.0, x.1 ∙ ap after (next_same p number other a b) ∙ sym y.1)
