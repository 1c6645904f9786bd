use Rattle.std.proofs.Common.{ap, ◌∙◌}
use Rattle.std.specs.FinMap as map
use Rattle.stun_types_wire.specs.Names.{Named, NamesByNumber}
use Rattle.stun_types_wire.specs.NamesView.{names_in}
use Rattle.stun_types_wire.proofs.NameMaps.{insert-names}
use Rattle.stun_types_wire.proofs.names.Names.add_method.Goals as goal

pub returns-clause-ok : goal.returns-clause-ok
returns-clause-ok c =
    ap {A = NamesByNumber} {B = Named} (λ m. record { methods = m; attributes = names_in c.self.inside.attributes })
    (insert-names c.self.inside.methods c.insert.new.self c.args.method.0 c.args.name c.in_ok-insert.ensures.updates)
    ∙ ap {A = Named} {B = Named} (λ v. record v { methods = map.insert v.methods c.args.method.0 c.args.name.now }) c.self.view_is
