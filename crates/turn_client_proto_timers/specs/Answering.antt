-- The queued replies to the server's own requests (RFC 6062, section 4.4).
use Rattle.std.specs.Prelude.{List}
use Rattle.turn_client_proto_allocation.specs.Changes.{without_first}
use Rattle.turn_client_proto_messages.specs.Waiting.{Queued, is_answer}

-- The queue without its first reply, in order.
abbrev pub without_answer : List Queued → List Queued
without_answer queue = without_first is_answer queue
