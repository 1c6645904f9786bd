-- A list whose elements were changed one after another.
use Rattle.std.proofs.Common.{◌≡◌, ℕ, ◌≤◌, List, ◌++◌, length, map, take, drop, subst, ap, arith, ◌∙◌}
use Rattle.std.proofs.lemmas.Grind.{common_steps}
use Rattle.turn_client_proto_allocation.proofs.Prefixes.{head_stored}

-- All elements were changed, and have the indices that they had.
pub walked : {X : Type 0} (f : X → X) (all left following : List X) (i n : ℕ) → left ≡ map f (take i all) ++ drop i all → length all ≤ i → n ≡ length all → take n (left ++ following) ≡ map f all
walked f all left following i n is over many =
    let whole : left ≡ map f all = is ∙ grind (arith, common_steps, over) in
    let long : length left ≡ n = ap length whole ∙ grind (arith, common_steps, many) in
    subst (λ m. take m (left ++ following) ≡ left) long (head_stored left following) ∙ whole
