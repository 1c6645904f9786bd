use Rattle.std.proofs.Common.{sym, ap, ◌∙◌}
use Rattle.stun_types_attributes.specs.Wire.declared.attribute.AttributeType.{AttributeType}
use Rattle.stun_types_attributes.specs.Wire.Grammar.{visible}
use Rattle.stun_types_message.specs.TypedReading.{nth_of_kind}
use Rattle.stun_types_message.proofs.Refusals.{refused_as}
use Rattle.stun_types_message.proofs.parsed.Message.nth_attribute.Goals as goal

pub returns-in-Some-clause-cause : goal.returns-in-Some-clause-cause
returns-in-Some-clause-cause g c =
    let requested = sym (ap (λ (t : AttributeType). nth_of_kind t.0 c.args.n (visible c.args.self.now)) c.TYPE.ensures) in
    refused_as g.A.AttributeStaticType.TYPE g.A.AttributeFromRaw.read_refusal _ _ _ (requested ∙ sym c.nth_of_type.ensures ∙ c.in-Some.is) c.from_raw.ensures.cause
