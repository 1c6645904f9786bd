use Rattle.std.proofs.Common.{◌≡◌, ℕ, map}
use Rattle.stun_types_attributes.specs.Wire.Attributes.{Attr}
use Rattle.stun_types_attributes.specs.Wire.Grammar.{visible}
use Rattle.stun_types_message.specs.TypedReading.{nth_of_kind}
use Rattle.stun_types_message.proofs.parsed.Message.nth_of_type.Given as goal

abbrev pub invariant-loop-attribute : goal.invariant-loop-attribute
invariant-loop-attribute l =
    (goal.iterator-loop-attribute).can_next l.attribute-iterator ×
    (goal.iterator-loop-attribute).is_finite l.attribute-iterator ×
    (nth_of_kind l.fn.atype.0 l.before (map (λ (x : ℕ × Attr). x.1) l.attribute-iterator) ≡ nth_of_kind l.fn.atype.0 l.fn.n (visible l.fn.self))
