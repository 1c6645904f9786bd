-- An outstanding request of a client, and when it is transmitted again (RFC 8489, section 6.2.1).
use Rattle.std.specs.Prelude.{◌≡◌, ◌<◌, ◌≤◌, ℕ, max, List, Option, Some, IfSome}
use Rattle.std.specs.FinMap as map
use Rattle.turn_client_proto_api.specs.StunProtoTransaction.Agents.{Transaction}
use Rattle.turn_client_proto_api.specs.StunProtoTransaction.Schedule.{end_at, slot_at, transmissions}
use Rattle.turn_client_proto_api.specs.StunProtoAgent.State.{Agent, is_tcp}
use Rattle.turn_client_proto_api.specs.StunProtoTransaction.declared.transaction.Cancelled.TheVariants.{Nothing}
use Rattle.turn_client_proto_api.specs.declared.answer.TurnPollRet.{TurnPollRet}
use Rattle.turn_client_proto_api.specs.declared.answer.TurnPollRet.TheVariants.{WaitUntil}
use Rattle.turn_client_proto_core.specs.declared.protocol.Protocol.{Protocol}
use Rattle.turn_client_proto_api.specs.Sent.{Sent}
use Rattle.turn_client_proto_handshake_laws.specs.Driving.{client_end}
use Rattle.turn_client_proto_handshake_laws.specs.Sent.{Beginning}

-- A request: its transaction ID, its bytes, and the time at which it was made.
pub record Requested : Type 0 where
  pub number : ℕ
  pub bytes : List ℕ
  pub made : ℕ

-- The request as it is transmitted: from the client's own address to the server.
abbrev pub sent_of : Beginning → Requested → Sent
sent_of b a = record { bytes = a.bytes; transport = b.transport; from = b.here; to = b.server }

-- The request's transaction after `many` transmissions.
abbrev pub transaction_of : Beginning → Requested → (many : ℕ) → Transaction
transaction_of b a many = record {
  bytes = a.bytes;
  to = b.server;
  sent = a.made;
  used = many;
  waits = b.config.waits;
  cancelled = Nothing;
}

-- The request is outstanding, and no other one is.
pub record IsOnlyRequested (b : Beginning) (a : Requested) (many : ℕ) (agent : Agent) : Type 0 where
  pub there : map.get agent.outstanding a.number ≡ Some (transaction_of b a many)
  pub only : (other : ℕ) (t : Transaction) → map.get agent.outstanding other ≡ Some t → other ≡ a.number

-- ---- its schedule

-- How often a request is transmitted: once over TCP.
abbrev pub count_of : Beginning → ℕ
count_of b = transmissions (is_tcp b.transport) b.config.waits

-- The times at which the request is transmitted, and the time at which it is given up.
abbrev pub slot_of : Beginning → Requested → (index : ℕ) → ℕ
slot_of b a index = slot_at a.made b.config.waits index

abbrev pub end_of : Beginning → Requested → ℕ
end_of b a = end_at a.made b.config.waits

-- A transmission is due at this time.
abbrev pub IsDue : Beginning → Requested → (many now : ℕ) → Type 0
IsDue b a many now = (many < count_of b) × (slot_of b a many ≤ now)

-- No transmission is due at this time.
abbrev pub IsQuiet : Beginning → Requested → (many now : ℕ) → Type 0
IsQuiet b a many now = many < count_of b → now < slot_of b a many

-- `poll` returned `WaitUntil` a time, and nothing changed. That time is not after the next slot (or now, if
-- the slot has passed), if one is left; nor after the end; nor after the time from which a queued message may
-- be transmitted, if one is queued. It is later than now, unless a transmission is due or a queued message
-- may be transmitted.
pub record IsPatient (b : Beginning) (a : Requested) (many : ℕ) (ready : Option ℕ) (now : ℕ) (old : Protocol)
    (ret : TurnPollRet) (new : Protocol) : Type 0 where
  pub time : ℕ
  pub answer_is : ret ≡ WaitUntil time
  pub by_slot : many < count_of b → time ≤ max now (slot_of b a many)
  pub by_end : time ≤ end_of b a
  pub by_ready : IfSome ready (λ from. time ≤ from)
  pub later : now ≤ client_end → IsQuiet b a many now → IfSome ready (λ from. now < from) → now < time
  pub unchanged : new ≡ old
