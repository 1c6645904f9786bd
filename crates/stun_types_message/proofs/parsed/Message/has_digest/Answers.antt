use Rattle.std.proofs.Common.{◌≡◌, List, ℕ, ◌+◌, take, sym, ap, subst, ◌∙◌}
use Rattle.std.specs.Prelude.{◌↔◌, IsTrue}
use Rattle.stun_types_add.specs.Integrity.Integrity.{IsPrefix, integrity_hmac}
use Rattle.stun_types_message.proofs.Validating.{covered_whole}
use Rattle.stun_types_message.proofs.parsed.Message.has_digest.Goals as goal

-- The covered text is one contiguous chunk.
pub returns-then-starts_with : goal.returns-then-starts_with
returns-then-starts_with c =
    let covered = c.split_at.ensures.front ∙ ap (λ (l : List ℕ). take c.args.offset l) c.as_ref.ensures.bytes in
    let decoded = sym c.if-starts_with.true ∙ c.starts_with.ensures.value in
    let size = c.length_up_to.ensures ∙ ap (λ k. c.args.offset + 4 + k) c.pad_attribute_len.ensures.value in
    subst (λ (text : List ℕ). IsTrue c.signs.result ↔ IsPrefix c.args.value.now (integrity_hmac c.args.key.now.algorithm c.args.key.now.bytes text))
    (covered_whole c.args.self.now c.split_at.result.0.now c.head_decoded-attribute_head.result c.args.offset c.length_up_to.result c.args.value.now c.requires covered c.head_decoded-attribute_head.ensures decoded size) c.signs.ensures
