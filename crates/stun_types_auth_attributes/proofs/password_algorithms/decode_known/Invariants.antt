use Rattle.std.proofs.Common.{◌≡◌, length}
use Rattle.std.specs.List.{list_all}
use Rattle.stun_types_auth_attributes.specs.PasswordAlgorithmNumbers.{is_known}
use Rattle.stun_types_auth_attributes.specs.Entries.{numbers_decoded}
use Rattle.stun_types_auth_attributes.proofs.password_algorithms.decode_known.Given as goal

-- All numbers are known if and only if those of the remaining bytes are.
abbrev pub invariant-loop-entry : goal.invariant-loop-entry
invariant-loop-entry l = list_all is_known (numbers_decoded l.left) ≡ list_all is_known (numbers_decoded l.fn.value)

abbrev pub decreases-loop-entry : goal.decreases-loop-entry
decreases-loop-entry l = length l.left
