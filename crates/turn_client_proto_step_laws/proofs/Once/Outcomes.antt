-- A relation between a result and the client afterwards that leaves no choice.
use Rattle.std.proofs.Common.{◌≡◌, Bool, true, false, Option, Some, None, sym, ◌∙◌}
use Rattle.std.specs.Bool.{MatchBool}
use Rattle.turn_client_proto_timers.specs.Core.Outcomes.{IsHandled, IsIgnored}
use Rattle.turn_client_proto_timers.specs.Core.declared.protocol.Protocol.{Protocol}

-- Two results, each with the client afterwards, are equal if both are in the relation.
pub record IsDefinite {A : Type 0} (leads : A → Protocol → Type 0) : Type 0 where
  pub same : (answer again : A) (one other : Protocol) → leads answer one → leads again other → (answer ≡ again) × (one ≡ other)

-- The relation is empty.
pub never : {A : Type 0} → IsDefinite {A = A} (λ answer new. ⊥)
never = record { same = λ answer again one other a b. absurd a }

-- The relation has exactly one result.
pub only : {A : Type 0} (wanted : A) (after : Protocol) → IsDefinite (λ (answer : A) (new : Protocol). (answer ≡ wanted) × (new ≡ after))
only wanted after = record { same = λ answer again one other a b. (a.0 ∙ sym b.0, a.1 ∙ sym b.1) }

pub handled : (after : Protocol) → IsDefinite (IsHandled after)
handled after = only true after

pub ignored : (after : Protocol) → IsDefinite (IsIgnored after)
ignored after = only false after

-- The relation depends on a test.
pub tested : {A : Type 0} {P Q : A → Protocol → Type 0} (b : Bool) → IsDefinite P → IsDefinite Q → IsDefinite (λ (answer : A) (new : Protocol). MatchBool b (P answer new) (Q answer new))
tested true p q = record { same = p.same }
tested false p q = record { same = q.same }

-- ---- options

pub some_none : {A : Type 0} (x : A) (o : Option A) → o ≡ Some x → o ≡ None → ⊥
some_none x o is empty = absurd (Prim.cc (sym is ∙ empty))

pub some_some : {A : Type 0} (x y : A) (o : Option A) → o ≡ Some x → o ≡ Some y → x ≡ y
some_some x y o first second = Prim.cc (sym first ∙ second)
