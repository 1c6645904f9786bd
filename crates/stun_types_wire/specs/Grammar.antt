-- Which bytes are a message, and why others are not.
use Rattle.std.specs.Prelude.{◌≡◌, ℕ, ◌+◌, Bool, ◌&&◌, ◌==◌, not, nat_lt, nat_eq, List, length, take, drop, slice_index, Option, Some, None, if◌then◌else◌}
use Rattle.std.specs.Option.{option_or}
use Rattle.std.specs.List.{starts_with, list_any}
use Rattle.byteorder.specs.Endian.{big_number}
use Rattle.stun_types_wire.specs.declared.error.StunParseError.{StunParseError}
use Rattle.stun_types_wire.specs.declared.error.StunParseError.TheVariants.{NotStun, Truncated, TooLarge, FingerprintMismatch}
use Rattle.stun_types_wire.specs.Attributes.{Attr, kind_at, length_at, numbered, size_at}
use Rattle.stun_types_wire.specs.Shape.{rank, may_follow, visible_after, after_visible, visible_rank}
use Rattle.stun_types_wire.specs.Fingerprints.{is_wrong_fingerprint}
use Rattle.stun_types_wire.specs.Registry.{cookie, header_size}

-- ---- the header (RFC 8489, section 5)

-- A decoded header: the message type, the length of what follows the header, and the transaction ID.
pub record Header : Type 0 where
  pub kind : ℕ
  pub len : ℕ
  pub number : ℕ

-- The transaction ID in a header.
unfoldable pub number_at : List ℕ → ℕ
number_at bytes = big_number 12 (drop 8 bytes)

-- The header with which some bytes begin.
abbrev pub header_at : List ℕ → Header
header_at bytes = record { kind = kind_at bytes; len = length_at bytes; number = number_at bytes }

-- Whether bytes may be the first bytes of a header: the two top bits are 0, and the magic cookie is right, as
-- far as there are bytes of it.
abbrev pub may_begin : List ℕ → Bool
may_begin bytes = nat_lt (slice_index bytes 0) 0x40 && starts_with nat_eq cookie (take 4 (drop 4 bytes))

-- Why bytes don't begin with a header.
unfoldable pub header_refusal : List ℕ → Option StunParseError
header_refusal bytes =
    if not (may_begin bytes) then Some NotStun
    else if nat_lt (length bytes) header_size then Some (Truncated header_size (length bytes))
    else None

-- ---- the message

-- Why the length field in the header is not the number of bytes after the header.
unfoldable pub length_refusal : List ℕ → Option StunParseError
length_refusal bytes =
    if nat_lt (length bytes) (header_size + length_at bytes)
    then Some (Truncated (header_size + length_at bytes) (length bytes))
    else if nat_lt (header_size + length_at bytes) (length bytes)
    then Some (TooLarge (header_size + length_at bytes) (length bytes))
    else None

-- The refusal if one of the attributes, each given with its offset, is a wrong FINGERPRINT.
unfoldable pub fingerprint_refusal : List ℕ → List (ℕ × Attr) → Option StunParseError
fingerprint_refusal bytes entries = if list_any (is_wrong_fingerprint bytes) entries then Some FingerprintMismatch
    else None

-- Why these bytes may not follow the visible attributes, the last of which has this rank. They may be empty,
-- or be at least four bytes and begin with a type that breaks the shape.
unfoldable pub rest_refusal : ℕ → List ℕ → Option StunParseError
rest_refusal before rest =
    if length rest == 0 then None
    else if nat_lt (length rest) 4 then Some (Truncated 4 (length rest))
    else if may_follow before (rank (kind_at rest)) then Some (Truncated (size_at rest) (length rest))
    else None

-- Why the bytes after a header are not the attributes of a message.
unfoldable pub body_refusal : List ℕ → Option StunParseError
body_refusal bytes = option_or
    (fingerprint_refusal bytes (numbered header_size (visible_after 0 (drop header_size bytes))))
    (rest_refusal (visible_rank 0 (drop header_size bytes)) (after_visible 0 (drop header_size bytes)))

-- The first reason why bytes are not a message.
unfoldable pub refusal : List ℕ → Option StunParseError
refusal bytes = option_or (header_refusal bytes) (option_or (length_refusal bytes) (body_refusal bytes))

-- The bytes are a message.
abbrev pub IsMessage : List ℕ → Type 0
IsMessage bytes = refusal bytes ≡ None

-- The visible attributes of a message.
unfoldable pub visible : List ℕ → List Attr
visible bytes = visible_after 0 (drop header_size bytes)
