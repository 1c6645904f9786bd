-- The invariant of a parsed message: its bytes are a message, and the stored header is their header.
use Rattle.std.specs.Prelude.{◌≡◌, ℕ, List}
use Rattle.stun_types_attributes.specs.Wire.Grammar.{Header, IsMessage, header_at}

pub record IsParsed (bytes : List ℕ) (decoded : Header) : Type 0 where
  pub message : IsMessage bytes
  pub header : decoded ≡ header_at bytes
