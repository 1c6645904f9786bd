use Rattle.std.proofs.Common.{◌≡◌, ◌+◌, eqb, length}
use Rattle.std.specs.Prelude.{find, sum_by}
use Rattle.stun_types_attributes.specs.Wire.Attributes.{attr_size, attributes, numbered}
use Rattle.stun_types_message.specs.MessageValidation.{first_of_kind}
use Rattle.stun_types_message.proofs.parsed.Message.first_of_type.Given as goal

-- The first match among the remaining attributes is the first among the visible ones. What remains is
-- complete attributes and starts at the offset.
abbrev pub invariant-loop-left : goal.invariant-loop-left
invariant-loop-left l =
    (find (λ x. eqb x.1.kind l.atype.0) (numbered l.offset (attributes l.left)) ≡ first_of_kind l.atype.0 l.fn.self) ×
    (sum_by attr_size (attributes l.left) ≡ length l.left) ×
    (l.offset + length l.left ≡ l.initial.offset + length l.initial.left)

abbrev pub decreases-loop-left : goal.decreases-loop-left
decreases-loop-left l = length l.left
