-- Consequences of a call's result.
use Rattle.std.proofs.Common.{Result, Ok, Err}
use Rattle.std.specs.Prelude.{IfOk, OnErr}

-- A consequence of what holds for `Ok`.
pub if_ok : {R E : Type 0} {P Q : R → Type 0} (r : Result R E) → ((x : R) → P x → Q x) → IfOk r P → IfOk r Q
if_ok (Ok x) f h = f x h
if_ok (Err e) f h = tt

-- A consequence of what holds for `Err`.
pub if_err : {R E P Q : Type 0} (r : Result R E) → (P → Q) → OnErr r P → OnErr r Q
if_err (Ok x) f h = tt
if_err (Err e) f h = f h
