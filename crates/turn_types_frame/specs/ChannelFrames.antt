-- Channel frames: the channel number, the length of the data, and the data (RFC 8656, section 12.4).
use Rattle.std.specs.Prelude.{◌≤◌, ◌<◌, ◌^◌, ℕ, ◌+◌, Bool, ◌&&◌, not, nat_le, nat_lt, List, ◌++◌, length, take, drop, replicate, Option, Some, None, if◌then◌else◌}
use Rattle.std.specs.Option.{option_or}
use Rattle.byteorder.specs.Endian.{big_bytes}
use Rattle.turn_types_peer.specs.Wire.Attributes.{kind_at, length_at, padding_len}
use Rattle.turn_types_peer.specs.Wire.declared.error.StunParseError.{StunParseError}
use Rattle.turn_types_peer.specs.Wire.declared.error.StunParseError.TheVariants.{NotStun, Truncated}
use Rattle.turn_types_peer.specs.TurnAttributes.TurnRegistry.{channel_header_size, greatest_channel, least_channel}

-- A channel number and data.
pub record Frame : Type 0 where
  pub id : ℕ
  pub payload : List ℕ

-- The number is a channel number.
abbrev pub is_channel : ℕ → Bool
is_channel id = nat_le least_channel id && nat_le id greatest_channel

-- The frame can be encoded: its number is a channel number, and its length fits into two bytes.
pub record IsLawful (id len : ℕ) : Type 0 where
  pub least : least_channel ≤ id
  pub most : id ≤ greatest_channel
  pub short : len < 2 ^ 16

-- The encoding of a frame: channel number, length and data.
abbrev pub frame_text : Frame → List ℕ
frame_text frame = big_bytes 2 frame.id ++ big_bytes 2 (length frame.payload) ++ frame.payload

-- The encoding of a frame in a stream: zeros pad it to a multiple of four bytes (section 12.5).
abbrev pub padded_frame_text : Frame → List ℕ
padded_frame_text frame = frame_text frame ++ replicate (padding_len (length frame.payload)) 0

-- The error, if any, of decoding a channel frame's header: the first one that applies.
unfoldable pub channel_header_refusal : List ℕ → Option StunParseError
channel_header_refusal bytes =
    if nat_lt (length bytes) channel_header_size then Some (Truncated channel_header_size (length bytes))
    else if not (is_channel (kind_at bytes)) then Some NotStun
    else None

-- The error, if any, when the data is incomplete.
abbrev pub channel_data_refusal : List ℕ → Option StunParseError
channel_data_refusal bytes = if nat_lt (length bytes) (channel_header_size + length_at bytes)
    then Some (Truncated (channel_header_size + length_at bytes) (length bytes)) else None

-- The error, if any, of decoding a channel frame.
unfoldable pub channel_refusal : List ℕ → Option StunParseError
channel_refusal bytes = option_or (channel_header_refusal bytes) (channel_data_refusal bytes)

-- The frame at the start of the bytes. Bytes after its data are ignored.
abbrev pub frame_at : List ℕ → Frame
frame_at bytes = record { id = kind_at bytes; payload = take (length_at bytes) (drop channel_header_size bytes) }
