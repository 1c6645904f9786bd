use Rattle.std.proofs.Common.{rules, ◌≡◌, List, ◌∷◌, ◌++◌, sym, ap, ◌∙◌, subst}
use Rattle.std.specs.List.{IsDistinct}
use Rattle.stun_types_wire.specs.declared.algorithm.IntegrityAlgorithm.{IntegrityAlgorithm}
use Rattle.stun_proto_auth.specs.SupportedAlgorithms.{is_same_algorithm}
use Rattle.stun_proto_auth.proofs.Adding.{next_added}
use Rattle.turn_client_proto_api.specs.Config.{Config}
use Rattle.turn_desk_world.proofs.setting.offer.Goals as goal

-- The next algorithm is appended to those that are supported.
pub loop-algorithm-preserved : goal.loop-algorithm-preserved
loop-algorithm-preserved c =
    let head = c.loop-algorithm.config.algorithms in
    let next = c.in-Some-split_first.algorithm.now in
    let following = c.in-Some-split_first.rest.now in
    let parts : head ++ next ∷ following ≡ c.args.algorithms.now = ap (λ (l : List IntegrityAlgorithm). head ++ l) (sym c.in-Some-split_first.ensures.cases.0) ∙ c.loop-algorithm.invariant.1 in
    let distinct : IsDistinct is_same_algorithm (head ++ next ∷ following) = subst (λ (l : List IntegrityAlgorithm). IsDistinct is_same_algorithm l) (sym parts) c.requires.distinct in
    (search rules, ap (λ (s : Config). s.algorithms ++ following) c.add_supported_integrity.ensures ∙ next_added head next following distinct ∙ parts)
