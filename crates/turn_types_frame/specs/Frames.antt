-- The frames of a stream: messages and channel frames, one after another (RFC 8656, section 12.5; RFC 8489,
-- section 6.2.2).
use Rattle.std.specs.Prelude.{◌≡◌, ◌≤◌, ℕ, ◌+◌, ◌⊎◌, true, List, ◌++◌, length, None}
use Rattle.std.specs.List.{AllByRecursion, concat}
use Rattle.turn_types_peer.specs.Wire.Attributes.{length_at, padded}
use Rattle.turn_types_peer.specs.Wire.Grammar.{header_refusal}
use Rattle.turn_types_peer.specs.Wire.Registry.{header_size}
use Rattle.turn_types_peer.specs.TurnAttributes.TurnRegistry.{channel_header_size}
use Rattle.turn_types_frame.specs.StreamHeads.{is_channel_top, head}
use Rattle.turn_types_frame.specs.Streams.{Fed, left_by}

-- The bytes are a complete message: a header, and as many bytes as its length field requires.
pub record IsMessageFrame (bytes : List ℕ) : Type 0 where
  pub header : header_refusal bytes ≡ None
  pub size : length bytes ≡ header_size + length_at bytes

-- The bytes are a complete channel frame: the top two bits are 01, as in every channel number; a length
-- field; as many bytes of data; and padding to a multiple of four.
pub record IsChannelFrame (bytes : List ℕ) : Type 0 where
  pub top : is_channel_top bytes ≡ true
  pub header : channel_header_size ≤ length bytes
  pub size : length bytes ≡ channel_header_size + padded (length_at bytes)

abbrev pub IsFrame : List ℕ → Type 0
IsFrame bytes = IsMessageFrame bytes ⊎ IsChannelFrame bytes

-- The bytes do not start with a complete frame.
abbrev pub BeginsNone : List ℕ → Type 0
BeginsNone bytes = (frame rest : List ℕ) → bytes ≡ frame ++ rest → ¬ IsFrame frame

-- The bytes do not start with a complete frame, whatever bytes follow them.
abbrev pub IsHopeless : List ℕ → Type 0
IsHopeless bytes = (more : List ℕ) → BeginsNone (bytes ++ more)

-- The bytes are these complete frames and then a rest that does not start with one.
pub record Frames (bytes : List ℕ) (frames : List (List ℕ)) (rest : List ℕ) : Type 0 where
  pub joined : bytes ≡ concat frames ++ rest
  pub each : AllByRecursion IsFrame frames
  pub ended : BeginsNone rest

-- A stream fed with these bytes has returned their frames. It buffers the rest, or is dead if the head of the
-- rest is invalid.
abbrev pub AreFrames : List ℕ → Fed → Type 0
AreFrames bytes fed = (rest : List ℕ) × Frames bytes fed.frames rest × (fed.stream ≡ left_by (head rest) rest)
