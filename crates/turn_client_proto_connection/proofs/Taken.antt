-- A list without the first element that passes.
use Rattle.std.proofs.Common.{◌≡◌, ℕ, Bool, List, [], ◌∷◌, ◌++◌, Some, position, arith, ap, refl}
use Rattle.std.proofs.lemmas.Grind.{common_steps}
use Rattle.std.specs.Prelude.{remove}
use Rattle.turn_client_proto_allocation.specs.Changes.{without_first}

module _ {X : Type 0} (p : X → Bool) where
  pub taken_at : (xs : List X) (i : ℕ) → position p xs ≡ Some i → remove xs i ≡ without_first p xs
  taken_at xs i h = grind (arith, common_steps)

pub none_after : {X : Type 0} (xs : List X) → xs ≡ xs ++ []
none_after [] = refl
none_after (x ∷ xs) = ap (λ l. x ∷ l) (none_after xs)
