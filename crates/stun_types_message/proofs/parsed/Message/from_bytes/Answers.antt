use Rattle.std.proofs.Common.{refl, rules}
use Rattle.stun_types_attributes.specs.Wire.Grammar.{refusal, length_refusal}
use Rattle.stun_types_message.specs.Parsed.{IsParsed}
use Rattle.stun_types_message.proofs.Shows.{visible_text}
use Rattle.stun_types_message.proofs.parsed.Message.from_bytes.Goals as goal

pub invariant_of-result : goal.invariant_of-result
unfolding refusal length_refusal
invariant_of-result c =
    let parsed : IsParsed c.args.bytes.now c.in_ok-header.header = search rules in
    (parsed, visible_text c.args.bytes.now _ _ c.in_ok-end.end c.in_ok-end.ensures.end.0 c.in_ok-end.ensures.end.1 refl c.after_header-visible.ensures)
