use Rattle.std.proofs.Common.{◌≡◌, ◌++◌, length, map, true}
use Rattle.std.specs.List.{list_all}
use Rattle.stun_types_auth_attributes.specs.PasswordAlgorithmNumbers.{is_known, number_of}
use Rattle.stun_types_auth_attributes.specs.Entries.{numbers_decoded}
use Rattle.stun_types_auth_attributes.proofs.password_algorithms.algorithms_of.Given as goal

-- The numbers decoded so far and those of the remaining bytes are the numbers of the whole value. Those of
-- the remaining bytes are known.
abbrev pub invariant-loop-entry : goal.invariant-loop-entry
invariant-loop-entry l =
    (map number_of l.algorithms.items ++ numbers_decoded l.left ≡ numbers_decoded l.fn.value) ×
    (list_all is_known (numbers_decoded l.left) ≡ true)

abbrev pub decreases-loop-entry : goal.decreases-loop-entry
decreases-loop-entry l = length l.left
