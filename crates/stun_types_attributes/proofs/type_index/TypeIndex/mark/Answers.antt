use Rattle.std.proofs.Common.{◌≡◌, ◌/◌, ◌<◌, ◌||◌, eqb, ℕ, List, length, ap, ◌∙◌, arith}
use Rattle.stun_types_attributes.specs.TypeMarks.{is_marked}
use Rattle.stun_types_attributes.proofs.TypeMarks.{marked_more}
use Rattle.stun_types_attributes.proofs.type_index.TypeIndex.mark.Goals as goal

pub returns : goal.returns
returns c = λ kind.
    let bit_index : c.from-bit_index.result ≡ c.args.atype.0 = c.from-bit_index.ensures ∙ c.value.ensures in
    let within : c.from-bit_index.result / 64 < length c.self.inside.words.items = omega (arith, c.self.invariant) in
    marked_more c.self.inside.words.items c.from-bit_index.result kind c.index_mut.result.now within c.index_mut.ensures.value ∙ ap (λ (k : ℕ). eqb k kind || is_marked c.self.inside.words.items kind) bit_index ∙ ap (λ (l : List ℕ). eqb c.args.atype.0 kind || is_marked l kind) c.self.view_is
