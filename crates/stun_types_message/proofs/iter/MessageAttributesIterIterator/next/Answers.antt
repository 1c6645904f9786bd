use Rattle.std.proofs.Common.{take, ap, sym, refl, ◌∙◌, List, ℕ}
use Rattle.stun_types_message.specs.ShapeStages.{stage_rank}
use Rattle.stun_types_attributes.specs.Wire.Shape.{may_follow}
use Rattle.stun_types_attributes.proofs.Wire.Left.{none_past, none_short, none_cut, none_stops, left_step, goes_from_step}
use Rattle.stun_types_message.proofs.iter.MessageAttributesIterIterator.next.Goals as goal

pub returns-then-self-clause-steps : goal.returns-then-self-clause-steps
returns-then-self-clause-steps c = let none = sym c.self.view_is ∙ none_past _ _ _ c.if-self.true in (none, none)

pub returns-in_default-clause-steps : goal.returns-in_default-clause-steps
returns-in_default-clause-steps c =
    let none = sym c.self.view_is ∙ none_short (stage_rank c.self.inside.stage) c.self.inside.offset c.self.inside.bytes.now c.split_at.result.1.now c.split_at.ensures.back c.in_default.ensures in (none, none)

pub returns-in_default-after-clause-steps : goal.returns-in_default-after-clause-steps
returns-in_default-after-clause-steps c =
    let none = sym c.self.view_is ∙ none_stops (stage_rank c.self.inside.stage) c.self.inside.offset _ c.in-Some.attribute_head.atype.0 c.self.inside.bytes.now c.split_at.result.1.now c.split_at.ensures.back c.in-Some.ensures.kind refl c.in_default-after.ensures in (none, none)

pub returns-then-rest-attribute_head-clause-steps : goal.returns-then-rest-attribute_head-clause-steps
returns-then-rest-attribute_head-clause-steps c =
    let none = sym c.self.view_is ∙ none_cut (stage_rank c.self.inside.stage) c.self.inside.offset c.in-Some.attribute_head.size c.self.inside.bytes.now c.split_at.result.1.now c.split_at.ensures.back c.in-Some.ensures.size c.if-rest-attribute_head.true in (none, none)

pub returns-clause-steps : goal.returns-clause-steps
returns-clause-steps c =
    sym c.self.view_is
    ∙ left_step (stage_rank c.self.inside.stage) c.self.inside.offset (stage_rank c.in-Some-after.stage) c.in-Some.attribute_head.atype.0 c.in-Some.attribute_head.size c.in-Some.attribute_head.length c.self.inside.bytes.now c.split_at.result.1.now c.new.result c.split_at.ensures.back c.in-Some.ensures.four c.in-Some.ensures.kind c.in-Some-after.ensures.1 (ap (may_follow (stage_rank c.self.inside.stage)) c.in-Some-after.ensures.1 ∙ c.in-Some-after.ensures.0) c.in-Some.ensures.size c.if-rest-attribute_head.false c.in-Some.ensures.len c.new.ensures.kind (c.new.ensures.value ∙ c.split_at-3.ensures.front ∙ ap (λ (l : List ℕ). take c.in-Some.attribute_head.length l) c.split_at-2.ensures.back)

pub returns-clause-goes : goal.returns-clause-goes
returns-clause-goes c = let less = goes_from_step _ _ _ (returns-clause-steps c) in record { on = λ _. (tt, tt, less); keeps = tt; rests = λ _. tt }
