-- The decoded header of an attribute.
use Rattle.std.specs.Prelude.{◌≡◌, ℕ, ◌≤◌, ◌<◌, ◌^◌, List, length}
use Rattle.stun_types_attributes.specs.Wire.Attributes.{kind_at, length_at, size_at}
use Rattle.stun_types_message.specs.declared.attribute_head.AttributeHead.{AttributeHead}

pub record DecodesHead (bytes : List ℕ) (attribute_head : AttributeHead) : Type 0 where
  pub four : 4 ≤ length bytes
  pub kind : attribute_head.atype.0 ≡ kind_at bytes
  pub len : attribute_head.length ≡ length_at bytes
  pub short : attribute_head.length < 2 ^ 16
  pub size : attribute_head.size ≡ size_at bytes
