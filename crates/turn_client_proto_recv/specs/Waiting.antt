-- The complete frames that are buffered in a client's stream and have not been handled (RFC 8656, section
-- 12.5).
use Rattle.std.specs.Prelude.{ℕ, List, [], length, drop, map, if◌then◌else◌}
use Rattle.turn_types_frame.specs.StreamAnswers.{joined}
use Rattle.turn_types_frame.specs.Streams.{Stream, fed}
use Rattle.turn_client_proto_recv.specs.Control.{Control, Datagrams, Open, Closed}
use Rattle.turn_client_proto_recv.specs.Pulls.{bare}

-- All complete frames of a stream, without their padding, oldest first. An invalid stream has none.
abbrev pub whole_frames : Stream → List (List ℕ)
whole_frames stream = if stream.dead then [] else map bare (fed stream.stored).frames

-- The complete frames of a stream that a chunk completes.
abbrev pub completed : Stream → (chunk : List ℕ) → List (List ℕ)
completed stream chunk = drop (length (whole_frames stream)) (whole_frames (joined stream chunk))

-- The complete frames that are buffered, over either transport.
abbrev pub frames_waiting : Control → List (List ℕ)
frames_waiting Datagrams = []
frames_waiting (Open stream) = whole_frames stream
frames_waiting Closed = []

-- All bytes that are buffered: complete frames, and what has come of the next one.
abbrev pub bytes_waiting : Control → List ℕ
bytes_waiting Datagrams = []
bytes_waiting (Open stream) = stream.stored
bytes_waiting Closed = []
