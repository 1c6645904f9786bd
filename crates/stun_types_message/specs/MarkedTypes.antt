-- The state of the scan that lists a message's unknown types.
use Rattle.std.specs.Prelude.{◌≡◌, ◌<◌, ℕ, Bool, false, List, get_or, length, map}
use Rattle.stun_types_add.specs.Write.Adding.{has_kind}
use Rattle.stun_types_message.specs.declared.check.Unknown.{Unknown}
use Rattle.stun_types_attributes.specs.Wire.Registry.{first_optional_kind}

-- The types in `seen` are listed: exactly these are marked, they are counted and, unless an allocation
-- failed, the list has them in order.
pub record IsListing (seen : List ℕ) (marks : List Bool) (unknown : Unknown) : Type 0 where
  pub marked : (kind : ℕ) → kind < first_optional_kind → get_or marks kind false ≡ has_kind kind seen
  pub counted : unknown.count ≡ length seen
  pub types : unknown.lacks_memory ≡ false → map (λ t. t.0) unknown.types.items ≡ seen
