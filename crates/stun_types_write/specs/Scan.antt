-- Iterating over the written attributes by their length fields.
use Rattle.std.specs.Prelude.{◌≡◌, ℕ, ◌<◌, List, length, drop, false, true, Option, MatchOption}
use Rattle.std.specs.Borrow.{Bor}
use Rattle.stun_types_wire.specs.declared.attribute.AttributeType.{AttributeType}
use Rattle.stun_types_wire.specs.Attributes.{is_whole, kind_at, size_at}

-- The bytes begin with a complete attribute. `found` is its type and the bytes after it.
pub record IsPrefix (bytes : List ℕ) (found : AttributeType × Bor (List ℕ)) : Type 0 where
  pub whole : is_whole bytes ≡ true
  pub kind : found.0.0 ≡ kind_at bytes
  pub following : found.1.now ≡ drop (size_at bytes) bytes
  pub shorter : length found.1.now < length bytes

abbrev pub IsStep : List ℕ → Option (AttributeType × Bor (List ℕ)) → Type 0
IsStep bytes step = MatchOption step (is_whole bytes ≡ false) (IsPrefix bytes)
