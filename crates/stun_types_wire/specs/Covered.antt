-- What an attribute at an offset covers: the message before it, with the length that the message would have
-- if it ended with that attribute (RFC 8489, sections 14.5 to 14.7).
use Rattle.std.specs.Prelude.{ℕ, ◌+◌, ◌-◌, List, ◌++◌, take, drop}
use Rattle.byteorder.specs.Endian.{big_bytes}
use Rattle.stun_types_wire.specs.Attributes.{size_at}
use Rattle.stun_types_wire.specs.Registry.{header_size}

-- The bytes of a message, with n in the length field.
unfoldable pub with_length : List ℕ → ℕ → List ℕ
with_length bytes n = take 2 bytes ++ big_bytes 2 n ++ drop 4 bytes

-- The bytes before the attribute at this offset, with a length field that includes that attribute.
unfoldable pub covered_text : List ℕ → ℕ → List ℕ
covered_text bytes offset = with_length (take offset bytes) (offset - header_size + size_at (drop offset bytes))
