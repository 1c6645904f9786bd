use Rattle.std.proofs.Common.{ap, ◌∙◌}
use Rattle.std.specs.Prelude.{ℕ, List, map}
use Rattle.stun_types_attributes.specs.Wire.Attributes.{Attr}
use Rattle.stun_types_attributes.specs.Wire.Grammar.{visible}
use Rattle.stun_types_message.specs.TypedReading.{nth_of_kind}
use Rattle.stun_types_attributes.proofs.Wire.Left.{map_numbered}
use Rattle.stun_types_message.proofs.parsed.Message.nth_of_type.Goals as goal

pub loop-attribute-init : goal.loop-attribute-init
loop-attribute-init c =
    let left = ap (λ (l : List (ℕ × Attr)). map (λ (x : ℕ × Attr). x.1) l) (c.into_iter-attribute-iterator.ensures.into_iter_gives ∙ c.iter_attributes-attribute-items.ensures) in
    (tt, tt, ap (λ (l : List Attr). nth_of_kind c.args.atype.0 c.args.n l) (left ∙ map_numbered 20 (visible c.args.self.now)))
