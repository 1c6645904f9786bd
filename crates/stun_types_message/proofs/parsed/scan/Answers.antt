use Rattle.std.proofs.Common.{rules, ◌≡◌, length, sym, ◌∙◌, arith, inl}
use Rattle.stun_types_message.proofs.Scanning.{none_after, step_at}
use Rattle.stun_types_attributes.proofs.Wire.Scan.{visible_short}
use Rattle.stun_types_attributes.proofs.Wire.Whole.{not_whole}
use Rattle.stun_types_message.specs.ShapeStages.{stage_rank}
use Rattle.stun_types_message.proofs.Shows.{end_of_visible}
use Rattle.stun_types_message.proofs.parsed.scan.Goals as goal

pub loop-rest-preserved : goal.loop-rest-preserved
loop-rest-preserved c =
    step_at c.loop-rest.stage _ _ _ _ _ c.loop-rest.invariant c.in-Some.ensures c.in-Some-after.ensures.0 c.in-Some-after.ensures.1 c.if-rest-attribute_head.false (sym c.is_wrong.ensures ∙ c.if-is_wrong.false) c.split_at-in-loop-rest.ensures.back

pub returns-in_default-after-clause-end : goal.returns-in_default-after-clause-end
returns-in_default-after-clause-end c =
    let end = end_of_visible (stage_rank c.loop-rest.stage) c.loop-rest.rest.now c.args.bytes.now c.loop-rest.invariant (none_after c.loop-rest.stage c.in-Some.attribute_head c.loop-rest.rest.now c.in-Some.ensures c.in_default-after.ensures) in
    (end.0, omega arith)

pub returns-clause-end : goal.returns-clause-end
returns-clause-end c =
    let empty : length c.loop-rest.rest.now ≡ 0 = search rules in
    let end = end_of_visible (stage_rank c.loop-rest.stage) c.loop-rest.rest.now c.args.bytes.now c.loop-rest.invariant (visible_short (stage_rank c.loop-rest.stage) c.loop-rest.rest.now (not_whole c.loop-rest.rest.now (inl (omega (arith, empty))))) in
    let decoded = end.0 in
    (omega (arith, decoded, empty), omega arith)
