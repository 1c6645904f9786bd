-- Appending to a list leaves its first elements as they were.
use Rattle.std.proofs.Common.{◌≡◌, List, ◌++◌, take, length}
use Rattle.std.proofs.Math.Seq.{take-append_seam, take-length}

pub head_stored : {X : Type 0} (prefix following : List X) → take (length prefix) (prefix ++ following) ≡ prefix
head_stored prefix following = take-append_seam prefix following

pub whole_stored : {X : Type 0} (all : List X) → take (length all) all ≡ all
whole_stored all = take-length all

-- The first elements are still the first ones.
pub ruleset stored = (head_stored, whole_stored)
