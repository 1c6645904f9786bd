use Rattle.std.proofs.Common.{◌≡◌, map}
use Rattle.std.specs.List.{list_any}
use Rattle.stun_types_attributes.specs.Wire.Grammar.{visible}
use Rattle.stun_types_message.specs.Objections.{is_unknown}
use Rattle.stun_types_message.proofs.check.shows_unknown.Given as goal

-- An unknown type is visible exactly if one is among the remaining attributes.
abbrev pub invariant-loop-attribute : goal.invariant-loop-attribute
invariant-loop-attribute l =
    (goal.iterator-loop-attribute).can_next l.attribute-iterator ×
    (goal.iterator-loop-attribute).is_finite l.attribute-iterator ×
    (list_any (λ a. is_unknown (map (λ t. t.0) l.supported) a.kind) (map (λ x. x.1) l.attribute-iterator) ≡ list_any (λ a. is_unknown (map (λ t. t.0) l.fn.supported) a.kind) (visible l.fn.msg))
