use Rattle.std.proofs.Common.{◌≡◌, length}
use Rattle.stun_types_auth_attributes.specs.Write.Adding.{has_kind}
use Rattle.stun_types_attributes.specs.UnknownTypes.{types_decoded}
use Rattle.stun_types_attributes.proofs.unknown_attributes.decodes_type.Given as goal

-- The type is in the whole value if and only if it is in the remaining bytes.
abbrev pub invariant-loop-pair : goal.invariant-loop-pair
invariant-loop-pair l = has_kind l.atype.0 (types_decoded l.left) ≡ has_kind l.atype.0 (types_decoded l.fn.bytes)

abbrev pub decreases-loop-pair : goal.decreases-loop-pair
decreases-loop-pair l = length l.left
