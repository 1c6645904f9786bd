use Rattle.std.proofs.Common.{rules, ◌≡◌, ◌+◌, ◌*◌, ◌^◌, ◌<◌, false, ℕ, List, [], length, map, drop, refl, sym, ap, ◌∙◌, arith, inl}
use Rattle.std.proofs.lemmas.List.{length-drop, length-replicate}
use Rattle.stun_types_attributes.specs.Wire.declared.attribute.AttributeType.{AttributeType}
use Rattle.stun_types_attributes.specs.Wire.Attributes.{Attr, attr_at, attributes, size_at}
use Rattle.stun_types_attributes.specs.Wire.Grammar.{visible}
use Rattle.stun_types_attributes.proofs.Wire.Whole.{attributes_short, attributes_whole, not_whole, whole_long}
use Rattle.stun_types_message.specs.Objections.{unknown_kinds, with_unknown}
use Rattle.stun_types_message.proofs.Listing.{all_listed, listed_with, next_listed, none_listed}
use Rattle.stun_types_message.proofs.Marks.{none_marked}
use Rattle.stun_types_message.proofs.Shows.{begins_whole, left_sum}
use Rattle.stun_types_message.proofs.check.unknown_types.Goals as goal

pub loop-left-init : goal.loop-left-init
loop-left-init c =
    let kinds = map (λ (t : AttributeType). t.0) c.args.supported.now in
    let text = c.visible_text-left.ensures in
    ([], none_marked 0x8000 _ refl refl c.new.ensures.items, length-replicate 0x8000 false, ap (λ (l : List Attr). listed_with kinds [] l) text.shows ∙ none_listed kinds (visible c.args.msg.now), text.whole, search rules)

pub at-attribute_head-requires : goal.at-attribute_head-requires
at-attribute_head-requires c =
    let some : length c.loop-left.left.now ≡ 0 → ⊥ = search rules in
    let long = whole_long c.loop-left.left.now (begins_whole c.loop-left.left.now some c.loop-left.invariant.4) in
    omega (arith, long)

pub split_at-requires : goal.split_at-requires
split_at-requires c =
    let some : length c.loop-left.left.now ≡ 0 → ⊥ = search rules in
    let long = whole_long c.loop-left.left.now (begins_whole c.loop-left.left.now some c.loop-left.invariant.4) in
    let size = c.at-attribute_head.ensures.size in
    omega (arith, long, size)

pub loop-left-preserved : goal.loop-left-preserved
loop-left-preserved c =
    let left = c.loop-left.left.now in
    let kinds = map (λ (t : AttributeType). t.0) c.args.supported.now in
    let seen = c.loop-left.invariant.0 in
    let some : length left ≡ 0 → ⊥ = search rules in
    let whole = begins_whole left some c.loop-left.invariant.4 in
    let long = whole_long left whole in
    let size = c.at-attribute_head.ensures.size in
    let following : c.split_at.result.1.now ≡ drop (size_at left) left = c.split_at.ensures.back ∙ ap (λ n. drop n left) size in
    let more = with_unknown kinds seen c.at-attribute_head.result.atype.0 in
    let named : more ≡ with_unknown kinds seen (attr_at left).kind = ap (λ (k : ℕ). with_unknown kinds seen k) c.at-attribute_head.ensures.kind in
    let listed : listed_with kinds more (attributes (drop (size_at left) left)) ≡ unknown_kinds (visible c.args.msg.now) kinds =
    next_listed kinds seen more (attr_at left) (attributes (drop (size_at left) left)) named ∙ ap (λ (l : List Attr). listed_with kinds seen l) (sym (attributes_whole left whole)) ∙ c.loop-left.invariant.3 in
    let bound : 4 * c.list_unknown.new.unknown.count + length (drop (size_at left) left) < 2 ^ 63 =
    omega (arith, c.loop-left.invariant.5, c.list_unknown.ensures.more, long, length-drop (size_at left) left) in
    rw following (more, c.list_unknown.ensures.listed seen c.loop-left.invariant.1, c.list_unknown.ensures.all, listed, left_sum left whole c.loop-left.invariant.4, bound)

-- If nothing remains, everything is listed.
listed_all : (kinds seen all left : List ℕ) → length left ≡ 0 → listed_with kinds seen (attributes left) ≡ all → seen ≡ all
listed_all kinds seen all left empty h =
    sym (all_listed kinds seen) ∙ ap (λ (l : List Attr). listed_with kinds seen l) (sym (attributes_short left (not_whole left (inl (omega (arith, empty)))))) ∙ h

pub returns-clause-count : goal.returns-clause-count
returns-clause-count c =
    let empty : length c.loop-left.left.now ≡ 0 = search rules in
    c.loop-left.invariant.1.counted ∙ ap length (listed_all _ _ _ c.loop-left.left.now empty c.loop-left.invariant.3)

pub returns-clause-types : goal.returns-clause-types
returns-clause-types c =
    let empty : length c.loop-left.left.now ≡ 0 = search rules in
    λ enough. c.loop-left.invariant.1.types enough ∙ listed_all _ _ _ c.loop-left.left.now empty c.loop-left.invariant.3
