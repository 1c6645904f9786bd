-- An outstanding request of a client, whatever it asks for, and what the calls of the client do with it (RFC
-- 8489, section 6.2.1).
use Rattle.std.specs.Prelude.{◌≡◌, ◌≢◌, ◌⊎◌, ◌<◌, ◌≤◌, ◌+◌, ℕ, max, true, length, List, [], ◌∷◌}
use Rattle.std.specs.Prelude.{Option, None, Some}
use Rattle.std.specs.FinMap as map
use Rattle.std.specs.List.{list_any}
use Rattle.std.specs.declared.net.socket_addr.SocketAddr.{SocketAddr}
use Rattle.turn_client_proto_messages.specs.Api.Sent.{Sent}
use Rattle.turn_client_proto_messages.specs.StunProtoAgent.Numbers.{ShowsNumbers}
use Rattle.turn_client_proto_messages.specs.StunProtoAgent.State.{is_tcp}
use Rattle.turn_client_proto_messages.specs.StunProtoTransaction.Agents.{Transaction, is_ended}
use Rattle.turn_client_proto_messages.specs.StunProtoTransaction.Schedule.{Waits, end_at, slot_at, transmissions}
use Rattle.turn_client_proto_messages.specs.StunProtoTransaction.declared.transaction.Cancelled.TheVariants.{Nothing}
use Rattle.turn_client_proto_messages.specs.StunTypesWire.Grammar.{number_at}
use Rattle.turn_client_proto_messages.specs.Api.declared.answer.TurnPollRet.{TurnPollRet}
use Rattle.turn_client_proto_messages.specs.Api.declared.answer.TurnPollRet.TheVariants as poll
use Rattle.turn_client_proto_core.specs.declared.protocol.Protocol.{Protocol}
use Rattle.turn_client_proto_handshake_laws.specs.Driving.{Call, Draws, DrawFails, Polls, Takes, Looks, IsCalled}
use Rattle.turn_client_proto_messages.specs.ShortTexts.{HasShortTexts}
use Rattle.turn_client_proto_messages.specs.TurnRuns.Members.{IsIn}
use Rattle.turn_client_proto_messages.specs.Waiting.{Queued, is_answer}

-- ---- a request

-- A request: its transaction ID, its bytes and where they are sent, the time of its first transmission, and the
-- waits of its schedule.
pub record Request : Type 0 where
  pub number : ℕ
  pub bytes : List ℕ
  pub to : SocketAddr
  pub made : ℕ
  pub waits : Waits

-- Its transaction after `many` transmissions.
abbrev pub transaction_of : Request → (many : ℕ) → Transaction
transaction_of r many = record {
  bytes = r.bytes;
  to = r.to;
  sent = r.made;
  used = many;
  waits = r.waits;
  cancelled = Nothing;
}

-- The request is outstanding, and was transmitted `many` times. A queued request counts as transmitted once.
abbrev pub IsOutstanding : Request → (many : ℕ) → Protocol → Type 0
IsOutstanding r many p = map.get p.agent.outstanding r.number ≡ Some (transaction_of r many)

-- No request with this transaction ID is outstanding.
abbrev pub IsGone : Request → Protocol → Type 0
IsGone r p = map.get p.agent.outstanding r.number ≡ None

-- The request as it is transmitted: from the client's own address to the server.
abbrev pub sent_of : Request → Protocol → Sent
sent_of r p = record { bytes = r.bytes; transport = p.agent.transport; from = p.agent.here; to = r.to }

-- What holds of each client that hasn't ended: the texts of its authenticator are within their limits, it has at
-- most two address families, and each outstanding request is stored under its own transaction ID. The calls
-- below keep that.
pub record IsInOrder (p : Protocol) : Type 0 where
  pub texts : HasShortTexts p.auth
  pub families : length p.families ≤ 2
  pub numbers : ShowsNumbers p.agent

-- ---- its schedule

-- How often the request is transmitted: once over TCP.
abbrev pub count_of : Request → Protocol → ℕ
count_of r p = transmissions (is_tcp p.agent.transport) r.waits

-- The time of its next transmission, after `many`; and the time at which it is given up.
abbrev pub slot_of : Request → (many : ℕ) → ℕ
slot_of r many = slot_at r.made r.waits many

abbrev pub end_of : Request → ℕ
end_of r = end_at r.made r.waits

-- Whether the next transmission is due.
abbrev pub IsDue : Request → (many now : ℕ) → Protocol → Type 0
IsDue r many now p = (many < count_of r p) × (slot_of r many ≤ now)

abbrev pub IsNoneDue : Request → (many now : ℕ) → Protocol → Type 0
IsNoneDue r many now p = many < count_of r p → now < slot_of r many

-- ---- a draw

-- A message that isn't a retransmission of the request: it has another transaction ID, or it was queued.
abbrev pub IsOther : Request → List Queued → Sent → Type 0
IsOther r queue message =
    (number_at message.bytes ≢ r.number) ⊎ ((q : Queued) × IsIn q queue × (message.bytes ≡ q.bytes))

-- What `poll_transmit` gives, and how often the request was transmitted then:
--
-- - `Again`: a transmission is due, and it is the request's: the same bytes.
-- - `Other`: it is another message. If a transmission of the request is due, it is a retransmission of another
--   request, with a lesser transaction ID.
-- - `None`: nothing is given, and no transmission of the request is due.
pub data IsDrawOf (r : Request) (many now : ℕ) (old : Protocol) (sent : Option Sent) (next : ℕ) : Type 0 where
  Again : IsDue r many now old → sent ≡ Some (sent_of r old) → next ≡ many + 1 → IsDrawOf r many now old sent next
  Other : (message : Sent) → sent ≡ Some message → IsOther r old.queue message
      → (IsDue r many now old → number_at message.bytes < r.number) → next ≡ many → IsDrawOf r many now old sent next
  Still : sent ≡ None → IsNoneDue r many now old → next ≡ many → IsDrawOf r many now old sent next

-- ---- a poll

-- Something else comes first at a poll: an event or a reply to the server is queued, or another request, with
-- a lesser transaction ID, has ended.
abbrev pub ComesFirst : Request → (now : ℕ) → Protocol → Type 0
ComesFirst r now p = (p.events ≢ []) ⊎ ((list_any is_answer p.queue ≡ true)
    ⊎ ((other : ℕ) × (t : Transaction) × (map.get p.agent.outstanding other ≡ Some t) × (is_ended now t ≡ true)
    × (other < r.number)))

-- The request is still outstanding after `poll`. If that returns a later time than now, the end of the request
-- hasn't come, and the time isn't later than that end, nor than the request's next slot (or now, if that slot
-- has passed).
pub record IsStillAwaited (r : Request) (many now : ℕ) (old : Protocol) (ret : TurnPollRet) (new : Protocol)
    : Type 0 where
  pub stays_stored : IsOutstanding r many new
  pub over : end_of r ≤ now → ComesFirst r now old
  pub before : (time : ℕ) → ret ≡ poll.WaitUntil time → now < time → (now < end_of r) × (time ≤ end_of r)
  pub by_slot : (time : ℕ) → ret ≡ poll.WaitUntil time → now < time → many < count_of r old
      → time ≤ max now (slot_of r many)

-- The request was given up: its end has come, and it isn't outstanding any more.
pub record IsGivenUp (r : Request) (now : ℕ) (new : Protocol) : Type 0 where
  pub over : end_of r ≤ now
  pub gone : IsGone r new

-- ---- calls

-- The call didn't run out of memory.
abbrev pub HasMemory : Call → Type 0
HasMemory (Draws now sent) = Unit {0}
HasMemory (DrawFails now) = ⊥
HasMemory (Polls now ret) = ret ≢ poll.NoMemory
HasMemory (Takes event) = Unit {0}
HasMemory Looks = Unit {0}

-- A client on which `poll_transmit`, `poll`, `poll_event` and getters were called, in this order, at any times,
-- while nothing came to it.
unfoldable pub AreCalled : Protocol → List Call → Protocol → Type 0
AreCalled old [] new = new ≡ old
AreCalled old (call ∷ calls) new =
    (between : Protocol) × IsCalled old call between × HasMemory call × AreCalled between calls new

-- What the calls gave of a request that was transmitted `many` times before, in order, and how often it was
-- transmitted in the end: `None` if it was given up. The client's transport and own address, and what was queued
-- in it, are those of `old`.
unfoldable pub IsTraced : Request → (old : Protocol) → (many : ℕ) → List Call → (last : Option ℕ) → Type 0
IsTraced r old many [] last = last ≡ Some many
IsTraced r old many (Draws now sent ∷ calls) last =
    (next : ℕ) × IsDrawOf r many now old sent next × IsTraced r old next calls last
IsTraced r old many (DrawFails now ∷ calls) last = ⊥
IsTraced r old many (Polls now ret ∷ calls) last =
    ((((time : ℕ) → ret ≡ poll.WaitUntil time → now < time → (now < end_of r) × (time ≤ end_of r)))
    × IsTraced r old many calls last)
    ⊎ ((end_of r ≤ now) × (last ≡ None))
IsTraced r old many (Takes event ∷ calls) last = IsTraced r old many calls last
IsTraced r old many (Looks ∷ calls) last = IsTraced r old many calls last

-- The state that corresponds to that.
abbrev pub IsLeft : Request → (last : Option ℕ) → Protocol → Type 0
IsLeft r None p = Unit {0}
IsLeft r (Some many) p = IsOutstanding r many p
