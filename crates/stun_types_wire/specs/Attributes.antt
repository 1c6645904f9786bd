-- Attributes, and the list of complete attributes with which some bytes begin (RFC 8489, section 14).
use Rattle.std.specs.Prelude.{◌≡◌, ℕ, zero, suc, ◌+◌, ◌-◌, ◌*◌, ◌/◌, ◌%◌, ◌<◌, ◌≤◌, Bool, ◌&&◌, nat_le, List, [], ◌∷◌, length, take, drop, if◌then◌else◌}
use Rattle.byteorder.specs.Endian.{big_number}

-- An attribute: a type and a value.
pub record Attr : Type 0 where
  pub kind : ℕ
  pub value : List ℕ

-- `whole` is `len` rounded up to a multiple of four.
pub record IsPadded (len whole : ℕ) : Type 0 where
  pub multiple : whole % 4 ≡ 0
  pub not_below : len ≤ whole
  pub least : whole < len + 4

-- A length rounded up to a multiple of four.
abbrev pub padded : ℕ → ℕ
padded len = (len + 3) / 4 * 4

-- The number of padding bytes after a value of this length.
abbrev pub padding_len : ℕ → ℕ
padding_len len = padded len - len

-- The encoded length of an attribute, header and padding included.
abbrev pub attr_size : Attr → ℕ
attr_size a = 4 + padded (length a.value)

-- The type, the length and the encoded length of the attribute with which some bytes begin, as its header
-- says.
abbrev pub kind_at : List ℕ → ℕ
kind_at bytes = big_number 2 bytes

abbrev pub length_at : List ℕ → ℕ
length_at bytes = big_number 2 (drop 2 bytes)

abbrev pub size_at : List ℕ → ℕ
size_at bytes = 4 + padded (length_at bytes)

-- The header of an attribute, decoded from four bytes.
pub record AttrHeader : Type 0 where
  pub kind : ℕ
  pub len : ℕ

abbrev pub attr_header_at : List ℕ → AttrHeader
attr_header_at bytes = record { kind = kind_at bytes; len = length_at bytes }

-- The attribute with which some bytes begin.
abbrev pub attr_at : List ℕ → Attr
attr_at bytes = record { kind = kind_at bytes; value = take (length_at bytes) (drop 4 bytes) }

-- Whether some bytes begin with a complete attribute, padding included.
abbrev pub is_whole : List ℕ → Bool
is_whole bytes = nat_le 4 (length bytes) && nat_le (size_at bytes) (length bytes)

-- The complete attributes with which some bytes begin, at most n of them.
unfoldable pub first_attributes : ℕ → List ℕ → List Attr
first_attributes zero bytes = []
first_attributes (suc n) bytes = if is_whole bytes then attr_at bytes
    ∷ first_attributes n (drop (size_at bytes) bytes) else []

-- All complete attributes with which some bytes begin.
unfoldable pub attributes : List ℕ → List Attr
attributes bytes = first_attributes (length bytes) bytes

-- Each attribute with its offset. The first is at this offset.
abbrev pub numbered : ℕ → List Attr → List (ℕ × Attr)
numbered offset [] = []
numbered offset (a ∷ rest) = (offset, a) ∷ numbered (offset + attr_size a) rest
