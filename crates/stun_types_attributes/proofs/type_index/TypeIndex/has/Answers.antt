use Rattle.std.proofs.Common.{◌≡◌, ◌/◌, ◌<◌, ℕ, List, length, ap, ◌∙◌, arith}
use Rattle.stun_types_attributes.specs.TypeMarks.{is_marked}
use Rattle.stun_types_attributes.proofs.TypeMarks.{mark_test}
use Rattle.stun_types_attributes.proofs.type_index.TypeIndex.has.Goals as goal

pub returns : goal.returns
returns c =
    let bit_index : c.from-bit_index.result ≡ c.args.atype.0 = c.from-bit_index.ensures ∙ c.value.ensures in
    let within : c.from-bit_index.result / 64 < length c.self.inside.words.items = omega (arith, c.self.invariant) in
    mark_test c.self.inside.words.items c.from-bit_index.result c.index.result.now within c.index.ensures ∙ ap (λ (k : ℕ). is_marked c.self.inside.words.items k) bit_index ∙ ap (λ (l : List ℕ). is_marked l c.args.atype.0) c.self.view_is
