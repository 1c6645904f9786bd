use Rattle.std.proofs.Common.{ap, ◌∙◌}
use Rattle.std.specs.FinMap as map
use Rattle.stun_types_wire.specs.Names.{Named, NamesByNumber}
use Rattle.stun_types_wire.specs.NamesView.{names_in}
use Rattle.stun_types_wire.proofs.NameMaps.{insert-names}
use Rattle.stun_types_wire.proofs.names.Names.add_attribute.Goals as goal

pub returns-clause-ok : goal.returns-clause-ok
returns-clause-ok c =
    ap {A = NamesByNumber} {B = Named} (λ m. record { methods = names_in c.self.inside.methods; attributes = m })
    (insert-names c.self.inside.attributes c.insert.new.self c.args.atype.0 c.args.name c.in_ok-insert.ensures.updates)
    ∙ ap {A = Named} {B = Named} (λ v. record v { attributes = map.insert v.attributes c.args.atype.0 c.args.name.now }) c.self.view_is
