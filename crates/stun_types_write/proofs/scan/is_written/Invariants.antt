use Rattle.std.proofs.Common.{◌≡◌, length}
use Rattle.stun_types_wire.specs.Attributes.{attributes}
use Rattle.stun_types_wire.specs.Shape.{kinds_of}
use Rattle.stun_types_write.specs.Adding.{has_kind}
use Rattle.stun_types_write.specs.Drafts.{kinds_written}
use Rattle.stun_types_write.proofs.scan.is_written.Given as goal

-- The type is one of those of all attributes if and only if it is one of the remaining ones.
abbrev pub invariant-loop-found : goal.invariant-loop-found
invariant-loop-found l = has_kind l.atype.0 (kinds_of (attributes l.left)) ≡ has_kind l.atype.0 (kinds_written l.fn.bytes)

abbrev pub decreases-loop-found : goal.decreases-loop-found
decreases-loop-found l = length l.left
