use Rattle.std.proofs.Common.{◌≡◌, ◌||◌, ℕ, length}
use Rattle.stun_types_auth_attributes.specs.Write.Adding.{has_kind}
use Rattle.stun_types_attributes.specs.TypeMarks.{is_marked}
use Rattle.stun_types_attributes.specs.UnknownTypes.{types_decoded}
use Rattle.stun_types_attributes.proofs.unknown_attributes.index_of.Given as goal

-- A type is in the whole value if and only if it is in the index or in the remaining bytes.
abbrev pub invariant-loop-pair : goal.invariant-loop-pair
invariant-loop-pair l = (kind : ℕ) → (is_marked l.index kind || has_kind kind (types_decoded l.left)) ≡ has_kind kind (types_decoded l.fn.bytes)

abbrev pub decreases-loop-pair : goal.decreases-loop-pair
decreases-loop-pair l = length l.left
