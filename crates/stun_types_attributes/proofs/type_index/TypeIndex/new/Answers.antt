use Rattle.stun_types_attributes.proofs.TypeMarks.{none_marked}
use Rattle.stun_types_attributes.proofs.type_index.TypeIndex.new.Goals as goal

pub returns : goal.returns
returns c = λ kind. none_marked c.in_ok-vec.field-0.items 1024 kind (c.in_ok-vec.ensures.items_if_clones_equal (λ y e. e))
