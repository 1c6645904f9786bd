use Rattle.std.proofs.Common.{ℕ, ap, ◌∙◌}
use Rattle.stun_types_attributes.specs.Wire.Text.{header_text}
use Rattle.stun_types_add.proofs.Started.{started}
use Rattle.stun_types_message.proofs.parsed.Message.builder.Goals as goal

pub returns-clause-started : goal.returns-clause-started
returns-clause-started g c =
    let decoded = c.to_bytes.ensures.text ∙ ap (λ (n : ℕ). header_text c.new-header.result.kind n c.new-header.result.number) c.new-header.ensures.len in
    started _ _ _ _ _ _ _ c.requires.empty c.new-header.ensures.kind c.new-header.ensures.number c.to_bytes.ensures.lawful decoded c.in_ok-push_data.ensures.ok
