use Rattle.std.proofs.Common.{sym, ap, ◌∙◌}
use Rattle.std.specs.List.{list_any}
use Rattle.stun_proto_auth.specs.SupportedAlgorithms.{is_same_algorithm}
use Rattle.stun_proto_auth.proofs.Keeping.{more_stored}
use Rattle.stun_proto_auth.proofs.supported.SupportedIntegrity.with.Goals as goal

pub invariant_of-result-2 : goal.invariant_of-result-2
invariant_of-result-2 c =
    more_stored c.self.inside.algorithms c.self.inside.entries c.entries_of.result c.self.inside.count c.from.result c.args.algorithm
    c.self.invariant c.from.ensures
    (ap (list_any (is_same_algorithm c.args.algorithm)) c.self.view_is ∙ sym c.supports.ensures ∙ c.if-supports.false)
    c.entries_of.ensures
