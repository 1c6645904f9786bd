-- A client that holds one allocation, and nothing else, as it renews it (RFC 8656, section 8).
use Rattle.std.specs.Prelude.{◌≡◌, ◌≤◌, ◌<◌, ◌+◌, ◌-◌, ◌*◌, ◌^◌, ℕ, max, List, [], ◌∷◌, None, Some}
use Rattle.std.specs.FinMap as finite
use Rattle.std.specs.declared.net.socket_addr.SocketAddr.{SocketAddr}
use Rattle.turn_client_proto_messages.specs.StunTypesBase.Times.{time_after}
use Rattle.turn_client_proto_messages.specs.Allocation.Refreshing.{granted, least_lifetime, renewed_before, second}
use Rattle.turn_client_proto_messages.specs.Allocation.declared.allocation.Allocation.{Allocation}
use Rattle.turn_client_proto_messages.specs.Allocation.declared.refresh.PendingRefresh.{PendingRefresh}
use Rattle.turn_client_proto_messages.specs.Api.declared.answer.TurnPollRet.{TurnPollRet}
use Rattle.turn_client_proto_messages.specs.Api.declared.answer.TurnPollRet.TheVariants.{WaitUntil}
use Rattle.turn_client_proto_messages.specs.Api.declared.event.TurnEvent.{TurnEvent}
use Rattle.turn_client_proto_handshake_laws.specs.Requested as asks
use Rattle.turn_client_proto_handshake_laws.specs.Requested.{Requested, IsOnlyRequested, IsQuiet, count_of, slot_of}
use Rattle.turn_client_proto_handshake_laws.specs.Choosing.{Choice}
use Rattle.turn_client_proto_handshake_laws.specs.Driving.{client_end}
use Rattle.turn_client_proto_messages.specs.Api.Options.{allocation_lifetime, cadence}
use Rattle.turn_client_proto_messages.specs.Waiting.{Queued}
use Rattle.turn_client_proto_handshake_laws.specs.Sent.{Beginning}
use Rattle.turn_client_proto_handshake_laws.specs.Stages.{IsOf}
use Rattle.turn_client_proto_handshake_laws.specs.Core.declared.protocol.Phase.TheVariants.{Authenticated}
use Rattle.turn_client_proto_handshake_laws.specs.Core.declared.protocol.Protocol.{Protocol}
use Rattle.turn_client_proto_progress_laws.specs.Refreshed.{refresh_requested, signed_by}

-- ---- how long an allocation lasts

-- The lifetime granted first, and that granted last, in seconds, and the time of the last grant.
pub record Term : Type 0 where
  pub first : ℕ
  pub lifetime : ℕ
  pub from : ℕ

-- The term of an allocation that was granted once.
abbrev pub first_term : (lifetime now : ℕ) → Term
first_term lifetime now = record { first = lifetime; lifetime = lifetime; from = now }

-- The term after it was granted again.
abbrev pub next_term : Term → (lifetime now : ℕ) → Term
next_term t lifetime now = record { first = t.first; lifetime = lifetime; from = now }

-- The end of a term, and the time a minute before it.
abbrev pub end_of : Term → ℕ
end_of t = t.from + t.lifetime * second

abbrev pub due_of : Term → ℕ
due_of t = end_of t - renewed_before

-- Both lifetimes are at least ten minutes, the last one fits into four bytes, and it was granted no later
-- than the latest time of a client.
pub record IsTerm (t : Term) : Type 0 where
  pub long : least_lifetime ≤ t.first
  pub enough : least_lifetime ≤ t.lifetime
  pub fits : t.lifetime < 2 ^ 32
  pub early : t.from ≤ client_end

-- An allocation for this term, with these pending REFRESHs, of which nothing else is requested or held.
abbrev pub held_for : Beginning → SocketAddr → Term → List PendingRefresh → Allocation
held_for b address t pending = record (granted b.config.transport address t.first t.from) {
  expiry = time_after t.from (t.lifetime * second);
  pending_refreshes = pending;
}

-- ---- the client

-- The client holds that allocation and nothing else. No request is outstanding. The last message was
-- transmitted at `last`, and these messages and events are queued.
pub record IsKeeping (b : Beginning) (c : Choice) (address : SocketAddr) (t : Term) (last : ℕ) (queue : List Queued)
    (events : List TurnEvent) (p : Protocol) : Type 0 where
  pub settings : IsOf b p
  pub none_requested : (transaction_id : ℕ) → finite.get p.agent.outstanding transaction_id ≡ None
  pub phase : p.phase ≡ Authenticated
  pub auth : p.auth ≡ signed_by b c
  pub allocations : p.allocations ≡ held_for b address t [] ∷ []
  pub queue_is : p.queue ≡ queue
  pub last_send : p.last_send ≡ Some last
  pub events_are : p.events ≡ events
  pub closing : p.closing ≡ []
  pub resends : p.resends ≡ 0

-- The client holds that allocation and nothing else, and a REFRESH with this transaction ID is the only
-- outstanding request. It was made at `now`, and transmitted `many` times, the last time at `last`. No
-- message is queued, and these events are.
pub record IsRefreshing (b : Beginning) (c : Choice) (address : SocketAddr) (t : Term) (transaction_id now many last : ℕ)
    (events : List TurnEvent) (p : Protocol) : Type 0 where
  pub settings : IsOf b p
  pub requested : IsOnlyRequested b (refresh_requested b c transaction_id now) many p.agent
  pub phase : p.phase ≡ Authenticated
  pub auth : p.auth ≡ signed_by b c
  pub allocations : p.allocations ≡ held_for b address t
      (record { number = transaction_id; lifetime = allocation_lifetime } ∷ []) ∷ []
  pub queue_is : p.queue ≡ []
  pub last_send : p.last_send ≡ Some last
  pub events_are : p.events ≡ events
  pub closing : p.closing ≡ []
  pub resends : p.resends ≡ 0

-- ---- when it sends something

-- The time of the next transmission: the first queued message 50 ms after the last one; if none is queued, a
-- REFRESH a minute before the term's end, but not within these 50 ms.
abbrev pub next_of : Term → (last : ℕ) → List Queued → ℕ
next_of t last [] = max (due_of t) (time_after last cadence)
next_of t last (q ∷ queue) = time_after last cadence

-- `poll` returned `WaitUntil` a time, and nothing changed. That time is not after the next transmission, and
-- it is later than now if no event is queued and nothing is to be transmitted yet.
pub record WaitsToSend (t : Term) (last : ℕ) (queue : List Queued) (events : List TurnEvent) (now : ℕ) (old : Protocol)
    (ret : TurnPollRet) (new : Protocol) : Type 0 where
  pub time : ℕ
  pub answer_is : ret ≡ WaitUntil time
  pub by_next : time ≤ next_of t last queue
  pub later : events ≡ [] → now < next_of t last queue → now < time
  pub unchanged : new ≡ old

-- `poll` returned `WaitUntil` a time while a request is outstanding, and nothing changed. That time is not
-- after the next slot (or now, if the slot has passed), if one is left, nor after the end of its schedule. It
-- is later than now if no event is queued and no transmission is due.
pub record AwaitsResponse (b : Beginning) (a : Requested) (many : ℕ) (events : List TurnEvent) (now : ℕ) (old : Protocol)
    (ret : TurnPollRet) (new : Protocol) : Type 0 where
  pub time : ℕ
  pub answer_is : ret ≡ WaitUntil time
  pub by_slot : many < count_of b → time ≤ max now (slot_of b a many)
  pub by_end : time ≤ asks.end_of b a
  pub later : events ≡ [] → IsQuiet b a many now → now < time
  pub unchanged : new ≡ old
