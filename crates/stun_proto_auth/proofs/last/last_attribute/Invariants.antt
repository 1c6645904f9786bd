use Rattle.std.proofs.Common.{◌≡◌, map}
use Rattle.std.specs.Option.{option_or}
use Rattle.stun_types_message.specs.Wire.Grammar.{visible}
use Rattle.stun_proto_auth.specs.Claims.{last_of_kind}
use Rattle.stun_proto_auth.proofs.last.last_attribute.Given as goal

-- The last match among the remaining attributes or, if there is none, the last one so far is the last of all.
abbrev pub invariant-loop-attribute : goal.invariant-loop-attribute
invariant-loop-attribute l =
    (goal.iterator-loop-attribute).can_next l.attribute-iterator ×
    (goal.iterator-loop-attribute).is_finite l.attribute-iterator ×
    (option_or (last_of_kind l.fn.atype.0 (map (λ x. x.1) l.attribute-iterator)) l.last ≡ last_of_kind l.fn.atype.0 (visible l.fn.message))
