-- The error that a call returns. A failed allocation is the last to be checked: it is the error only if no
-- other applies.
use Rattle.std.specs.Prelude.{◌≡◌, ◌≢◌, Option, Some, None, Result, MatchResult}

-- `error` is the error of a call whose first refusal is `refusal`. It is `memory`, for a failed allocation,
-- only if there is no refusal.
pub record IsCause {E : Type 0} (memory : E) (refusal : Option E) (error : E) : Type 0 where
  pub named : error ≢ memory → refusal ≡ Some error
  pub last : error ≡ memory → refusal ≡ None

-- `error` is the refusal, and is not the error of a failed allocation: the call allocates nothing.
pub record IsNamed {E : Type 0} (memory : E) (refusal : Option E) (error : E) : Type 0 where
  pub cause : refusal ≡ Some error
  pub named : error ≢ memory

-- A call succeeds only if there is no refusal. It fails with the refusal or, if there is none, because an
-- allocation failed.
abbrev pub RefusesFor : {A E : Type 0} → E → Option E → Result A E → Type 0
RefusesFor memory refusal result = MatchResult result (λ _. refusal ≡ None) (IsCause memory refusal)
