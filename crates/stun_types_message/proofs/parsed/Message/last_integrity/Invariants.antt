use Rattle.std.proofs.Common.{◌≡◌, map}
use Rattle.std.specs.Option.{option_or}
use Rattle.stun_types_attributes.specs.Wire.Grammar.{visible}
use Rattle.stun_types_message.specs.MessageValidation.{last_algorithm}
use Rattle.stun_types_message.proofs.parsed.Message.last_integrity.Given as goal

-- The last algorithm of the remaining attributes, or otherwise the last so far, is that of the visible
-- attributes.
abbrev pub invariant-loop-attribute : goal.invariant-loop-attribute
invariant-loop-attribute l =
    (goal.iterator-loop-attribute).can_next l.attribute-iterator ×
    (goal.iterator-loop-attribute).is_finite l.attribute-iterator ×
    (option_or (last_algorithm (map (λ x. x.1) l.attribute-iterator)) l.last ≡ last_algorithm (visible l.fn.self))
