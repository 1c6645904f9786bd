-- The index of the first reply in a queue that consists of two slices.
use Rattle.std.proofs.Common.{◌≡◌, ℕ, suc, ◌+◌, ◌<◌, ◌≤◌, Bool, true, false, not, List, [], ◌∷◌, ◌++◌, length, Some, None, position, refl, ap, arith, cond}
use Rattle.std.proofs.lemmas.Grind.{common_steps}
use Rattle.std.specs.List.{position_or_len}

module _ {X : Type 0} (p : X → Bool) where
  head_len : (xs ys : List X) → position_or_len p xs < length xs → position_or_len p (xs ++ ys) ≡ position_or_len p xs
  head_len [] ys h = absurd (omega (arith, h))
  head_len (x ∷ xs) ys h =
      elim (p x) as (λ b. cond (not b) (1 + position_or_len p xs) 0 < suc (length xs) → cond (not b) (1 + position_or_len p (xs ++ ys)) 0 ≡ cond (not b) (1 + position_or_len p xs) 0) [
        | true ↦ λ l. refl
        | false ↦ λ l. ap (λ n. 1 + n) (head_len xs ys (omega (arith, l)))
      ] h

  after_len : (xs ys : List X) → length xs ≤ position_or_len p xs → position_or_len p (xs ++ ys) ≡ length xs + position_or_len p ys
  after_len [] ys h = grind (arith)
  after_len (x ∷ xs) ys h =
      elim (p x) as (λ b. suc (length xs) ≤ cond (not b) (1 + position_or_len p xs) 0 → cond (not b) (1 + position_or_len p (xs ++ ys)) 0 ≡ suc (length xs) + position_or_len p ys) [
        | true ↦ λ l. absurd (omega (arith, l))
        | false ↦ λ l. let rest = after_len xs ys (omega (arith, l)) in omega (arith, rest)
      ] h

  pub index_in_head : (xs ys : List X) (i : ℕ) → position p xs ≡ Some i → position p (xs ++ ys) ≡ Some i
  index_in_head xs ys i h = grind (arith, common_steps, head_len xs ys)

  pub index_after : (xs ys : List X) (i : ℕ) → position p xs ≡ None → position p ys ≡ Some i → position p (xs ++ ys) ≡ Some (length xs + i)
  index_after xs ys i h k = grind (arith, common_steps, after_len xs ys)

  pub index_nowhere : (xs ys : List X) → position p xs ≡ None → position p ys ≡ None → position p (xs ++ ys) ≡ None
  index_nowhere xs ys h k = grind (arith, common_steps, after_len xs ys)
