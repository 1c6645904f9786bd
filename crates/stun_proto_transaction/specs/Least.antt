-- Least elements of lists and maps.
use Rattle.std.specs.Prelude.{◌≡◌, ◌⊎◌, ℕ, ◌≤◌, Bool, true, List, Some}
use Rattle.std.specs.FinMap as map
use Rattle.std.specs.List.{All, Contains}
use Rattle.std.specs.Ordering.{nat_cmp}

-- The number `least` is the least of `most` and the numbers of a list.
pub record IsLeastOf (most : ℕ) (numbers : List ℕ) (least : ℕ) : Type 0 where
  pub within : least ≤ most
  pub below : All (λ n. least ≤ n) numbers
  pub reached : (least ≡ most) ⊎ Contains numbers least

-- The entry passes a test, and has the least key of all entries of the map that do.
pub record IsLeast {X : Type 0} (test : X → Bool) (entries : map.FinMap nat_cmp X) (transaction_id : ℕ) (value : X)
    : Type 0 where
  pub present : map.get entries transaction_id ≡ Some value
  pub passes : test value ≡ true
  pub least : (other : ℕ) (another : X) → map.get entries other ≡ Some another → test another ≡ true → transaction_id ≤ other
