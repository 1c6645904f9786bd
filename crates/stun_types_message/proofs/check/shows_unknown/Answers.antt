use Rattle.std.proofs.Common.{ap, ◌∙◌}
use Rattle.std.specs.Prelude.{ℕ, List, map}
use Rattle.std.specs.List.{list_any}
use Rattle.stun_types_attributes.specs.Wire.declared.attribute.AttributeType.{AttributeType}
use Rattle.stun_types_attributes.specs.Wire.Attributes.{Attr}
use Rattle.stun_types_attributes.specs.Wire.Grammar.{visible}
use Rattle.stun_types_attributes.proofs.Wire.Left.{map_numbered}
use Rattle.stun_types_message.specs.Objections.{is_unknown}
use Rattle.stun_types_message.proofs.check.shows_unknown.Goals as goal

pub loop-attribute-init : goal.loop-attribute-init
loop-attribute-init c =
    let left = ap (λ (l : List (ℕ × Attr)). map (λ (x : ℕ × Attr). x.1) l) (c.into_iter-attribute-iterator.ensures.into_iter_gives ∙ c.iter_attributes-attribute-items.ensures) ∙ map_numbered 20 (visible c.args.msg.now) in
    let kinds = map (λ (t : AttributeType). t.0) c.args.supported.now in
    (tt, tt, ap (λ (l : List Attr). list_any (λ (a : Attr). is_unknown kinds a.kind) l) left)
