-- Taking back what was appended last.
use Rattle.std.proofs.Common.{◌≡◌, ℕ, zero, suc, List, [], ◌∷◌, Some, slice_get, slice_set, refl, arith}
use Rattle.std.proofs.lemmas.Bool.Decides.{nat_tests}

-- An element that was changed is changed back.
pub set_back : {X : Type 0} (before : List X) (index : ℕ) (a x : X) → slice_get before index ≡ Some a → slice_set (slice_set before index x) index a ≡ before
set_back [] index a x there = refl
set_back (y ∷ before) zero a x there = grind (arith, nat_tests)
set_back (y ∷ before) (suc index) a x there = grind (arith, nat_tests, set_back before index a x)

-- Putting an element where it already is changes nothing.
pub set_again : {X : Type 0} (all : List X) (index : ℕ) (x : X) → slice_get all index ≡ Some x → slice_set all index x ≡ all
set_again [] index x there = refl
set_again (y ∷ all) zero x there = grind (arith, nat_tests)
set_again (y ∷ all) (suc index) x there = grind (arith, nat_tests, set_again all index x)
