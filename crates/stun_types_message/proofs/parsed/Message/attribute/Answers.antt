use Rattle.std.proofs.Common.{eqb, sym, ap, ◌∙◌}
use Rattle.std.specs.Prelude.{find}
use Rattle.stun_types_attributes.specs.Wire.declared.attribute.AttributeType.{AttributeType}
use Rattle.stun_types_attributes.specs.Wire.Grammar.{visible}
use Rattle.stun_types_message.proofs.Refusals.{refused_as}
use Rattle.stun_types_message.proofs.parsed.Message.attribute.Goals as goal

pub returns-in-Some-clause-cause : goal.returns-in-Some-clause-cause
returns-in-Some-clause-cause g c =
    let requested = sym (ap (λ (t : AttributeType). find (λ a. eqb a.kind t.0) (visible c.args.self.now)) c.TYPE.ensures) in
    refused_as g.A.AttributeStaticType.TYPE g.A.AttributeFromRaw.read_refusal _ _ _ (requested ∙ sym c.raw_attribute.ensures ∙ c.in-Some.is) c.from_raw.ensures.cause
