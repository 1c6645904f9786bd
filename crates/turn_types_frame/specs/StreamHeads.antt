-- Recognizes the frame at the head of a stream by its first bytes (RFC 8656, section 12.5).
use Rattle.std.specs.Prelude.{ℕ, ◌+◌, Bool, ◌&&◌, not, nat_le, nat_lt, List, length, take, slice_index, if◌then◌else◌}
use Rattle.turn_types_peer.specs.Wire.Attributes.{length_at, padded}
use Rattle.turn_types_peer.specs.Wire.Grammar.{may_begin}
use Rattle.turn_types_peer.specs.Wire.Registry.{header_size}
use Rattle.turn_types_peer.specs.TurnAttributes.TurnRegistry.{channel_header_size}
use Rattle.turn_types_frame.specs.declared.head.FrameHead.{FrameHead}
use Rattle.turn_types_frame.specs.declared.head.FrameHead.TheVariants.{Message, Channel, Incomplete, Invalid}

-- The top two bits are 01, which starts a channel frame.
abbrev pub is_channel_top : List ℕ → Bool
is_channel_top bytes = nat_le 0x40 (slice_index bytes 0) && nat_lt (slice_index bytes 0) 0x80

-- A channel frame with its number of data bytes, if it is complete with its padding.
abbrev pub channel_head : List ℕ → FrameHead
channel_head bytes =
    if nat_le (channel_header_size + padded (length_at bytes)) (length bytes)
    then Channel (length_at bytes) else Incomplete

-- A message with its total number of bytes, if it is complete.
abbrev pub message_head : List ℕ → FrameHead
message_head bytes =
    if nat_le (header_size + length_at bytes) (length bytes)
    then Message (header_size + length_at bytes) else Incomplete

-- What the first bytes are. They are invalid if the top two bits are 10 or 11 or a byte of the magic cookie
-- is wrong.
unfoldable pub head : List ℕ → FrameHead
head bytes =
    if is_channel_top bytes then channel_head bytes
    else if not (may_begin bytes) then Invalid
    else message_head bytes

-- The number of bytes of the frame at the head, with padding.
abbrev pub size_of : FrameHead → ℕ
size_of (Message size) = size
size_of (Channel len) = channel_header_size + padded len
size_of Incomplete = 0
size_of Invalid = 0

-- The number of bytes of the frame at the head that a call returns: without the padding of a channel frame.
abbrev pub given_of : FrameHead → ℕ
given_of (Message size) = size
given_of (Channel len) = channel_header_size + len
given_of Incomplete = 0
given_of Invalid = 0

-- The bytes of the frame at the head that a call returns.
abbrev pub given : List ℕ → List ℕ
given bytes = take (given_of (head bytes)) bytes
