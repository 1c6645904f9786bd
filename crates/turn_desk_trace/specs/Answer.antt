-- The bytes of a result that later lines can name.
use Rattle.std.specs.Prelude.{ℕ, List, [], Option, Some, None}
use Rattle.stun_types_base.specs.Data.{data_bytes}
use Rattle.turn_desk_event.specs.declared.answer.Answer.{Answer}
use Rattle.turn_desk_event.specs.declared.answer.Answer.TheVariants as Answers

-- The bytes of a result, if it is of a kind that has bytes.
abbrev pub answered_bytes : Answer → Option (List ℕ)
answered_bytes (Answers.Reply reply) = Some reply.items
answered_bytes Answers.Nothing = None
answered_bytes (Answers.Transmit t) = Some (data_bytes t.bytes)
answered_bytes Answers.Handled = None
answered_bytes Answers.Ignored = None
answered_bytes (Answers.Peer p) = Some p.payload
answered_bytes (Answers.Icmp transport peer type code content) = None
answered_bytes (Answers.Wait time) = None
answered_bytes (Answers.Socket id socket peer) = None
answered_bytes (Answers.Close local remote) = None
answered_bytes Answers.Closed = None
answered_bytes (Answers.Event event) = None
answered_bytes Answers.Done = None
answered_bytes (Answers.Refused refusal) = None
answered_bytes (Answers.Have occurs) = None
answered_bytes (Answers.Relayed list) = None
answered_bytes (Answers.Permissions list) = None
answered_bytes (Answers.Channels list) = None
answered_bytes (Answers.Connections list) = None
answered_bytes Answers.OutOfRange = None

-- The bytes, or an empty list if there are none.
abbrev pub bytes_or_none : Option (List ℕ) → List ℕ
bytes_or_none None = []
bytes_or_none (Some bytes) = bytes

-- The bytes that a later line names by the result's number. They are empty for a result that has none.
abbrev pub named_by : Answer → List ℕ
named_by answer = bytes_or_none (answered_bytes answer)
