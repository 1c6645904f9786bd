-- What holds of the client in a handle holds of the call on the handle.
use Rattle.std.proofs.Common.{◌≡◌, Option, Some, sym, subst}
use Rattle.std.specs.Prelude.{ℤ, Bool, false}
use Rattle.turn_client_c_calls.specs.Calls.{Named, OnClient, Unless}
use Rattle.turn_client_c_calls.specs.Held.{Held}
use Rattle.turn_client_c_calls.specs.declared.whole.HandleState.{HandleState}

-- If `reported` is the result for the client `before`, which is the one in the handle, the call on the handle
-- returns it.
pub on_client : (Does : ℤ → HandleState → HandleState → Type 0) (old new : Held) (status reported : ℤ) (held before after : HandleState)
    → reported ≡ status → old ≡ Some held → before ≡ held → new ≡ Some after → Does reported before after → OnClient old new status (Does status)
on_client Does old new status reported held before after same was is becomes does =
    subst (λ (o : Held). OnClient o new status (Does status)) (sym was)
    (subst (λ (n : Held). OnClient (Some held) n status (Does status)) (sym becomes)
    (subst (λ (s : ℤ). Does s held after) same (subst (λ (w : HandleState). Does reported w after) is does)))

pub named : {A : Type 0} (found : Option A) (a : A) (refusal : ℤ) (old new : Held) (status : ℤ) (Holds : A → Type 0) → found ≡ Some a → Holds a → Named found refusal old new status Holds
named found a refusal old new status Holds is holds = subst (λ (f : Option _). Named f refusal old new status Holds) (sym is) holds

pub unless : (condition : Bool) (refusal : ℤ) (old new : Held) (status : ℤ) (Holds : Type 0) → condition ≡ false → Holds → Unless condition refusal old new status Holds
unless condition refusal old new status Holds is holds = subst (λ (c : Bool). Unless c refusal old new status Holds) (sym is) holds
