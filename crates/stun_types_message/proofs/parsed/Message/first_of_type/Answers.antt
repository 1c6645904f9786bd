use Rattle.std.proofs.Common.{rules, ◌≡◌, true, false, eqb, Some, length, drop, sym, ap, ◌∙◌, arith}
use Rattle.std.proofs.lemmas.List.{length-drop}
use Rattle.stun_types_message.proofs.Validating.{occurs}
use Rattle.stun_types_attributes.specs.Wire.Attributes.{Attr, kind_at, size_at}
use Rattle.stun_types_attributes.proofs.Wire.Whole.{whole_long}
use Rattle.stun_types_message.proofs.Shows.{attribute_is, begins_whole, first_at, first_at_after, left_sum, none_at}
use Rattle.stun_types_message.proofs.parsed.Message.first_of_type.Goals as goal

pub at-attribute_head-requires : goal.at-attribute_head-requires
at-attribute_head-requires c =
    let some : length c.loop-left.left.now ≡ 0 → ⊥ = search rules in
    let long = whole_long c.loop-left.left.now (begins_whole c.loop-left.left.now some c.loop-left.invariant.1) in
    omega (arith, long)

pub split_at-requires : goal.split_at-requires
split_at-requires c =
    let some : length c.loop-left.left.now ≡ 0 → ⊥ = search rules in
    let long = whole_long c.loop-left.left.now (begins_whole c.loop-left.left.now some c.loop-left.invariant.1) in
    let size = c.at-attribute_head.ensures.size in
    omega (arith, long, size)

pub returns-then-eq-clause-found : goal.returns-then-eq-clause-found
returns-then-eq-clause-found c =
    let left = c.loop-left.left.now in
    let some : length left ≡ 0 → ⊥ = search rules in
    let whole = begins_whole left some c.loop-left.invariant.1 in
    let same : eqb (kind_at left) c.args.atype.0 ≡ true = search rules in
    let raw = attribute_is left _ _ _ c.new.result _ _ _ c.new.ensures.kind c.new.ensures.value c.at-attribute_head.ensures.kind c.at-attribute_head.ensures.size c.at-attribute_head.ensures.len c.split_at.ensures.front c.split_at-then-eq.ensures.back c.split_at-then-eq-2.ensures.front in
    ap (λ (a : Attr). Some (c.loop-left.offset, a)) raw ∙ sym (first_at left c.loop-left.offset c.args.atype.0 whole same) ∙ c.loop-left.invariant.0

pub loop-left-preserved : goal.loop-left-preserved
loop-left-preserved c =
    let left = c.loop-left.left.now in
    let some : length left ≡ 0 → ⊥ = search rules in
    let whole = begins_whole left some c.loop-left.invariant.1 in
    let other : eqb (kind_at left) c.args.atype.0 ≡ false = search rules in
    let following : c.split_at.result.1.now ≡ drop (size_at left) left = c.split_at.ensures.back ∙ ap (λ n. drop n left) c.at-attribute_head.ensures.size in
    rw (following, c.at-attribute_head.ensures.size) (sym (first_at_after left c.loop-left.offset c.args.atype.0 whole other) ∙ c.loop-left.invariant.0, left_sum left whole c.loop-left.invariant.1, (let long = whole_long left whole in let less = length-drop (size_at left) left in let so-far = c.loop-left.invariant.2 in omega (arith, long, less, so-far)))

pub returns-clause-found : goal.returns-clause-found
returns-clause-found c =
    let empty : length c.loop-left.left.now ≡ 0 = search rules in
    sym (none_at c.loop-left.left.now c.loop-left.offset c.args.atype.0 empty) ∙ c.loop-left.invariant.0

pub returns-then-eq-clause-occurs : goal.returns-then-eq-clause-occurs
returns-then-eq-clause-occurs c = occurs c.args.atype.0 c.args.self.now (c.loop-left.offset, c.new.result) (sym (returns-then-eq-clause-found c))
