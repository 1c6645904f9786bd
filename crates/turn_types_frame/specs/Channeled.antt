-- Channel frames sent in datagrams or in a stream (RFC 8656, section 12.5).
use Rattle.std.specs.Prelude.{ℕ, List, Bool, true, false}
use Rattle.turn_types_frame.specs.ChannelFrames.{Frame, frame_text, padded_frame_text}

-- A frame, and whether padding follows it.
pub record Channeled : Type 0 where
  pub frame : Frame
  pub padded : Bool

abbrev pub text_when : Bool → Frame → List ℕ
text_when true frame = padded_frame_text frame
text_when false frame = frame_text frame

-- The bytes to be sent.
abbrev pub channeled_text : Channeled → List ℕ
channeled_text channeled = text_when channeled.padded channeled.frame
