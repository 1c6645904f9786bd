use Rattle.std.proofs.Common.{sym, ap, ◌∙◌, Some, None}
use Rattle.std.specs.Option.{unwrap_or}
use Rattle.stun_types_wire.specs.Names.{attribute_name, known_attribute}
use Rattle.stun_types_wire.proofs.NameMaps.{get-names}
use Rattle.stun_types_wire.proofs.attribute.AttributeType.name.Goals as goal

pub returns-in-Some : goal.returns-in-Some
returns-in-Some c =
    sym (ap (λ v. unwrap_or v (known_attribute c.args.self.0)) (get-names c.names.inside.attributes c.args.self.0 (Some c.in-Some.name.now) c.in-Some.ensures.value))
    ∙ ap (λ v. attribute_name v c.args.self.0) c.names.view_is

pub returns-in-None : goal.returns-in-None
returns-in-None c =
    c.known_attribute_name.ensures
    ∙ sym (ap (λ v. unwrap_or v (known_attribute c.args.self.0)) (get-names c.names.inside.attributes c.args.self.0 None c.in-None.ensures.value))
    ∙ ap (λ v. attribute_name v c.args.self.0) c.names.view_is
