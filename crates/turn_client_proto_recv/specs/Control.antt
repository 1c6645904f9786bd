-- How bytes come from the server (RFC 8656, section 12.5).
use Rattle.turn_types_frame.specs.Streams.{Stream}

-- Over UDP each datagram comes by itself. Over TCP bytes come in a stream, of which some may be buffered,
-- until it has ended.
pub data Control : Type 0 where
  Datagrams : Control
  Open : (stream : Stream) → Control
  Closed : Control
