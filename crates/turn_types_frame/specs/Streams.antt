-- A stream split into chunks anywhere: the bytes that it buffers, and the frames that it has returned.
use Rattle.std.specs.Prelude.{ℕ, zero, suc, Bool, true, false, List, [], ◌∷◌, ◌++◌, length, take, drop, if◌then◌else◌}
use Rattle.turn_types_frame.specs.declared.head.FrameHead.{FrameHead}
use Rattle.turn_types_frame.specs.declared.head.FrameHead.TheVariants.{Message, Channel, Incomplete, Invalid}
use Rattle.turn_types_frame.specs.StreamHeads.{head, size_of}

-- The buffered bytes, and whether the stream is dead. A dead stream returns nothing more and buffers nothing.
pub record Stream : Type 0 where
  pub stored : List ℕ
  pub dead : Bool

abbrev pub alive : List ℕ → Stream
alive stored = record { stored = stored; dead = false }

abbrev pub dead_stream : Stream
dead_stream = record { stored = []; dead = true }

-- The stream that remains of these bytes after the frame at their head, if any, is removed.
abbrev pub left_by : FrameHead → List ℕ → Stream
left_by (Message size) bytes = alive (drop (size_of (Message size)) bytes)
left_by (Channel len) bytes = alive (drop (size_of (Channel len)) bytes)
left_by Incomplete bytes = alive bytes
left_by Invalid bytes = dead_stream

-- ---- all frames

-- The frames that a stream has returned, with padding, and the stream that remains.
pub record Fed : Type 0 where
  pub frames : List (List ℕ)
  pub stream : Stream

abbrev pub one_more : List ℕ → Fed → Fed
one_more frame fed = record { frames = frame ∷ fed.frames; stream = fed.stream }

-- The result of feeding bytes with this head, given the result `later` of the bytes after the frame.
abbrev pub fed_by : FrameHead → List ℕ → Fed → Fed
fed_by Incomplete bytes later = record { frames = []; stream = alive bytes }
fed_by Invalid bytes later = record { frames = []; stream = dead_stream }
fed_by (Message size) bytes later = one_more (take (size_of (Message size)) bytes) later
fed_by (Channel len) bytes later = one_more (take (size_of (Channel len)) bytes) later

-- The result of feeding these bytes, limited to a number of frames.
unfoldable pub fed_within : ℕ → List ℕ → Fed
fed_within zero bytes = record { frames = []; stream = alive bytes }
fed_within (suc n) bytes = fed_by (head bytes) bytes (fed_within n (drop (size_of (head bytes)) bytes))

-- The result of feeding these bytes to a new stream. Each frame has at least one byte, so the limit is not
-- reached.
abbrev pub fed : List ℕ → Fed
fed bytes = fed_within (suc (length bytes)) bytes

-- The result of feeding more bytes to a stream.
abbrev pub feeding : List ℕ → Fed → Fed
feeding more before =
    if before.stream.dead then before
    else record {
      frames = before.frames ++ (fed (before.stream.stored ++ more)).frames;
      stream = (fed (before.stream.stored ++ more)).stream;
    }
