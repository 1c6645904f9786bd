-- An agent's outstanding request, and what the agent does next for it (RFC 8489, section 6.2).
use Rattle.std.specs.Prelude.{ℕ, ◌+◌, nat_lt, nat_le, Bool, ◌&&◌, ◌||◌, true, false, List, if◌then◌else◌, Option, Some, None}
use Rattle.std.specs.declared.net.socket_addr.SocketAddr.{SocketAddr}
use Rattle.stun_types_message.specs.Wire.Grammar.{refusal, visible}
use Rattle.stun_types_message.specs.Wire.declared.algorithm.IntegrityAlgorithm.{IntegrityAlgorithm}
use Rattle.stun_types_message.specs.MessageValidation.{last_algorithm}
use Rattle.stun_types_message.specs.Wire.declared.error.StunParseError.{StunParseError}
use Rattle.stun_proto_transaction.specs.declared.transaction.Change.{Change}
use Rattle.stun_proto_transaction.specs.declared.transaction.Change.TheVariants.{Cancel, CancelRetransmissions, ConfigureTimeout}
use Rattle.stun_proto_transaction.specs.declared.transaction.Cancelled.{Cancelled}
use Rattle.stun_proto_transaction.specs.declared.transaction.Cancelled.TheVariants.{Nothing, Retransmissions, Whole}
use Rattle.stun_types_message.specs.Base.Times.{greatest_time}
use Rattle.stun_proto_transaction.specs.Schedule.{Waits, end_at, slot_at, transmissions}

-- An outstanding request: its bytes and their destination, the time of the first transmission, the number of
-- transmissions so far, the waits, and how far it is cancelled.
pub record Transaction : Type 0 where
  pub bytes : List ℕ
  pub to : SocketAddr
  pub sent : ℕ
  pub used : ℕ
  pub waits : Waits
  pub cancelled : Cancelled

-- Nothing is cancelled.
abbrev pub continues : Cancelled → Bool
continues Nothing = true
continues Retransmissions = false
continues Whole = false

-- The whole transaction is cancelled.
abbrev pub is_over : Cancelled → Bool
is_over Nothing = false
is_over Retransmissions = false
is_over Whole = true

-- The state after retransmissions are cancelled too.
abbrev pub without_retransmissions : Cancelled → Cancelled
without_retransmissions Nothing = Retransmissions
without_retransmissions Retransmissions = Retransmissions
without_retransmissions Whole = Whole

-- A transmission is left.
abbrev pub has_left : Bool → Transaction → Bool
has_left is_tcp t = continues t.cancelled && nat_lt t.used (transmissions is_tcp t.waits)

-- The time of the next transmission.
abbrev pub next_slot : Transaction → ℕ
next_slot t = slot_at t.sent t.waits t.used

-- A transmission is due at `now`: one is left, and its time is not later.
abbrev pub is_due : Bool → ℕ → Transaction → Bool
is_due is_tcp now t = has_left is_tcp t && nat_le (next_slot t) now

-- The transaction has ended at `now`: it is cancelled as a whole, or its end is not later.
abbrev pub is_ended : ℕ → Transaction → Bool
is_ended now t = is_over t.cancelled || nat_le (end_at t.sent t.waits) now

-- The next time at which there is something to do for the transaction: that of the next transmission or, if
-- none is left, the end.
abbrev pub next_time : Bool → Transaction → ℕ
next_time is_tcp t = if has_left is_tcp t then next_slot t else end_at t.sent t.waits

-- The time at which the next transmission is due, or the greatest possible time if none is left.
abbrev pub sends_from : Bool → Transaction → ℕ
sends_from is_tcp t = if has_left is_tcp t then next_slot t else greatest_time

-- The time at which the transaction ends, or time zero if it is cancelled as a whole.
abbrev pub ends_from : Transaction → ℕ
ends_from t = if is_over t.cancelled then 0 else end_at t.sent t.waits

-- The transaction after one more transmission, if one is left.
abbrev pub transmitted : Bool → Transaction → Transaction
transmitted is_tcp t = if has_left is_tcp t then record t { used = t.used + 1 } else t

-- The transaction after a caller's change: other waits, no more transmissions, or its end.
abbrev pub changed : Change → Transaction → Transaction
changed (ConfigureTimeout waits) t = record t { waits = waits }
changed CancelRetransmissions t = record t { cancelled = without_retransmissions t.cancelled }
changed Cancel t = record t { cancelled = Whole }

-- The algorithm that was read from a message, or `None` if the bytes are not a message.
abbrev pub unless_malformed : Option StunParseError → Option IntegrityAlgorithm → Option IntegrityAlgorithm
unless_malformed None read = read
unless_malformed (Some cause) read = None

-- The algorithm of the last visible integrity attribute of the request.
abbrev pub integrity_of : Transaction → Option IntegrityAlgorithm
integrity_of t = unless_malformed (refusal t.bytes) (last_algorithm (visible t.bytes))
