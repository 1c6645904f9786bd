-- The bytes of a message's visible attributes.
use Rattle.std.specs.Prelude.{◌≡◌, ℕ, List, length, sum_by}
use Rattle.stun_types_attributes.specs.Wire.Attributes.{attr_size, attributes}
use Rattle.stun_types_attributes.specs.Wire.Grammar.{visible}

-- The text consists of complete attributes: the visible attributes of the message.
pub record IsVisibleText (bytes text : List ℕ) : Type 0 where
  pub shows : attributes text ≡ visible bytes
  pub whole : sum_by attr_size (attributes text) ≡ length text
