-- The steps of the scan, in the terms of the code.
use Rattle.std.proofs.Common.{◌≡◌, ℕ, ◌<◌, ◌≤◌, true, false, Some, None, List, [], length, drop, sym, ap, ◌∙◌}
use Rattle.stun_types_attributes.specs.Wire.declared.error.StunParseError.TheVariants.{Truncated, FingerprintMismatch}
use Rattle.stun_types_attributes.specs.Wire.Attributes.{kind_at}
use Rattle.stun_types_attributes.specs.Wire.Shape.{rank, may_follow, visible_after}
use Rattle.stun_types_attributes.specs.Wire.Grammar.{body_refusal}
use Rattle.stun_types_attributes.proofs.Wire.Scan.{Continues, is_wrong_at, refuses_cut, refuses_fingerprint, ends_other, continues_at, visible_stops}
use Rattle.stun_types_message.specs.declared.attribute_head.AttributeHead.{AttributeHead}
use Rattle.stun_types_message.specs.declared.stage.Stage.{Stage}
use Rattle.stun_types_message.specs.Heads.{DecodesHead}
use Rattle.stun_types_message.specs.ShapeStages.{stage_rank}
use Rattle.stun_types_attributes.proofs.Wire.Scan.{begins, ends_all, refuses_short}

-- Whether a type may follow, stated for the type read by the code and for that in the bytes.
follows_at : (before kind : ℕ) (rest : List ℕ) (b : _) → kind ≡ kind_at rest → may_follow before (rank kind) ≡ b → may_follow before (rank (kind_at rest)) ≡ b
follows_at before kind rest b is h = ap (λ k. may_follow before (rank k)) (sym is) ∙ h

pub ends_at : (stage : Stage) (attribute_head : AttributeHead) (rest bytes : List ℕ) → Continues (stage_rank stage) rest bytes → DecodesHead rest attribute_head → may_follow (stage_rank stage) (rank attribute_head.atype.0) ≡ false → body_refusal bytes ≡ None
ends_at stage attribute_head rest bytes so_far decodes stops = ends_other (stage_rank stage) rest bytes so_far decodes.four (follows_at (stage_rank stage) attribute_head.atype.0 rest false decodes.kind stops)

pub cut_at : (stage : Stage) (attribute_head : AttributeHead) (rest bytes : List ℕ) → Continues (stage_rank stage) rest bytes → DecodesHead rest attribute_head → may_follow (stage_rank stage) (rank attribute_head.atype.0) ≡ true → length rest < attribute_head.size
    → body_refusal bytes ≡ Some (Truncated attribute_head.size (length rest))
cut_at stage attribute_head rest bytes so_far decodes follows lt =
    rw decodes.size (refuses_cut (stage_rank stage) rest bytes so_far decodes.four (follows_at (stage_rank stage) attribute_head.atype.0 rest true decodes.kind follows) (rw decodes.size at lt))

pub wrong_at : (stage : Stage) (attribute_head : AttributeHead) (rest bytes : List ℕ) → Continues (stage_rank stage) rest bytes → DecodesHead rest attribute_head → may_follow (stage_rank stage) (rank attribute_head.atype.0) ≡ true
    → attribute_head.size ≤ length rest → is_wrong_at bytes rest ≡ true → body_refusal bytes ≡ Some FingerprintMismatch
wrong_at stage attribute_head rest bytes so_far decodes follows long wrong =
    refuses_fingerprint (stage_rank stage) rest bytes so_far decodes.four (follows_at (stage_rank stage) attribute_head.atype.0 rest true decodes.kind follows) (rw decodes.size at long) wrong

pub step_at : (stage next : Stage) (attribute_head : AttributeHead) (rest after bytes : List ℕ) → Continues (stage_rank stage) rest bytes → DecodesHead rest attribute_head → may_follow (stage_rank stage) (rank attribute_head.atype.0) ≡ true → stage_rank next ≡ rank attribute_head.atype.0
    → attribute_head.size ≤ length rest → is_wrong_at bytes rest ≡ false → after ≡ drop attribute_head.size rest → Continues (stage_rank next) after bytes
step_at stage next attribute_head rest after bytes so_far decodes follows next-is long right after-is =
    continues_at (stage_rank stage) (stage_rank next) attribute_head.size attribute_head.atype.0 rest after bytes so_far decodes.four decodes.kind next-is (ap (may_follow (stage_rank stage)) next-is ∙ follows) decodes.size long right after-is

-- A type that may not follow ends the visible attributes.
pub none_after : (stage : Stage) (attribute_head : AttributeHead) (rest : List ℕ) → DecodesHead rest attribute_head → may_follow (stage_rank stage) (rank attribute_head.atype.0) ≡ false → visible_after (stage_rank stage) rest ≡ []
none_after stage attribute_head rest decodes stops = visible_stops (stage_rank stage) rest (follows_at (stage_rank stage) attribute_head.atype.0 rest false decodes.kind stops)

-- The step of the scan for one more attribute.
pub ruleset scanned = (refuses_short, ends_all, begins, ends_at, cut_at, wrong_at)
