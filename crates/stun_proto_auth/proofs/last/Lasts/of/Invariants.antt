use Rattle.std.proofs.Common.{◌≡◌, map}
use Rattle.stun_types_message.specs.Wire.Grammar.{visible}
use Rattle.stun_proto_auth.specs.Claims.{lasts}
use Rattle.stun_proto_auth.proofs.Lasts.{joined}
use Rattle.stun_proto_auth.proofs.last.Lasts.of.Given as goal

-- The last ones among the remaining attributes or, of a type that has none there, the last one so far are the last of all.
abbrev pub invariant-loop-attribute : goal.invariant-loop-attribute
invariant-loop-attribute l =
    (goal.iterator-loop-attribute).can_next l.attribute-iterator ×
    (goal.iterator-loop-attribute).is_finite l.attribute-iterator ×
    (joined (lasts (map (λ x. x.1) l.attribute-iterator)) l.found ≡ lasts (visible l.fn.message))
