-- What a client sends (RFC 8489, section 6.2.1; RFC 8656, sections 7.1, 8.1, 10.1 and 12.1).
use Rattle.turn_client_proto_api.specs.Sent.{Sent}
use Rattle.std.specs.Prelude.{◌≡◌, ◌≢◌, ◌⊎◌, ℕ, nat_lt, Bool, false, List, [], ◌∷◌, find, Option, Some, None, MatchOption}
use Rattle.std.specs.Bool.{MatchBool}
use Rattle.std.specs.declared.net.ip_addr.IpAddr.{IpAddr}
use Rattle.std.specs.declared.net.socket_addr.SocketAddr.{SocketAddr}
use Rattle.turn_client_proto_allocation.specs.StunProtoTransaction.Agents.{Transaction, transmitted}
use Rattle.turn_client_proto_allocation.specs.StunProtoTransaction.Least.{IsLeast}
use Rattle.stun_types_base.specs.Times.{time_after}
use Rattle.stun_proto_agent.specs.Sending.{NoneDue, is_due_of, stored_under, with_request}
use Rattle.stun_proto_agent.specs.State.{is_tcp}
use Rattle.turn_client_proto_allocation.specs.declared.allocation.Allocation.{Allocation}
use Rattle.turn_client_proto_messages.specs.Requests.{request_text}
use Rattle.turn_client_proto_messages.specs.declared.request.TurnRequest.{TurnRequest}
use Rattle.turn_client_proto_messages.specs.declared.request.TurnRequest.TheVariants.{ChannelBind, CreatePermission, FirstAllocate}
use Rattle.turn_client_proto_messages.specs.declared.request.TurnRequest.TheVariants.{Refresh as RefreshRequest}
use Rattle.turn_client_proto_messages.specs.ReportedRequests.{IsLawfulAllocate, IsLawfulRequest}
use Rattle.turn_client_proto_core.specs.Numbering.{IsNextNumber, after_number}
use Rattle.turn_client_proto_timers.specs.Answering.{without_answer}
use Rattle.turn_client_proto_timers.specs.Polling.{pace_of}
use Rattle.turn_client_proto_timers.specs.Wanting.{channel_renewal_first, refreshed_first, renewal_first, wanted}
use Rattle.turn_client_proto_timers.specs.declared.wanting.Want.{Want}
use Rattle.turn_client_proto_timers.specs.declared.wanting.Want.TheVariants.{Refresh, Channel, Permission}
use Rattle.turn_client_proto_messages.specs.Waiting.{Queued, is_answer}
use Rattle.turn_client_proto_core.specs.declared.protocol.Phase.{Phase}
use Rattle.turn_client_proto_core.specs.declared.protocol.Phase.TheVariants.{Initial, InitialSent, Authenticated}
use Rattle.turn_client_proto_core.specs.declared.protocol.Protocol.{Protocol}

-- The client after it sent something at `now`.
abbrev pub after_sending : ℕ → Protocol → Protocol
after_sending now p = record p { last_send = Some now }

-- Nothing is sent, and nothing changes.
abbrev pub IsStill : Protocol → Option Sent → Protocol → Type 0
IsStill old answer new = (answer ≡ None) × (new ≡ old)

-- ---- a request that is sent again

-- A request is retransmitted: of those that are due, the one with the least transaction ID.
pub record IsRepeated (old : Protocol) (now : ℕ) (sent : Sent) (new : Protocol) : Type 0 where
  pub number : ℕ
  pub transaction : Transaction
  pub least : IsLeast (is_due_of old.agent now) old.agent.outstanding number transaction
  pub is_sent : sent ≡ record {
    bytes = transaction.bytes;
    transport = old.agent.transport;
    from = old.agent.here;
    to = transaction.to;
  }
  pub after : new ≡ after_sending now
      (record old { agent = stored_under old.agent number (transmitted (is_tcp old.agent.transport) transaction) })

-- ---- a message that waits

-- The last message was sent so recently that no other one may be sent yet.
abbrev pub is_resting : (pace : ℕ) → Option ℕ → ℕ → Bool
is_resting pace None now = false
is_resting pace (Some last) now = nat_lt now (time_after last pace)

-- The first message of the queue is sent.
pub record IsQueuedSent (old : Protocol) (now : ℕ) (q : Queued) (rest : List Queued) (sent : Sent) (new : Protocol)
    : Type 0 where
  pub is_sent : sent ≡ record { bytes = q.bytes; transport = old.agent.transport; from = q.from; to = old.server }
  pub after : new ≡ after_sending now (record old { queue = rest })

-- The first queued reply to the server is sent, if there is one. This doesn't delay other messages.
abbrev pub IsAnswerSent : Option Queued → Protocol → Option Sent → Protocol → Type 0
IsAnswerSent None old answer new = IsStill old answer new
IsAnswerSent (Some q) old answer new =
    (answer ≡ Some (record { bytes = q.bytes; transport = old.agent.transport; from = q.from; to = old.server }))
    × (new ≡ record old { queue = without_answer old.queue })

-- ---- a request that is made and sent at once

-- The client after it made a request that is sent at once. The request is outstanding.
unfoldable pub sent_at_once : Protocol → TurnRequest → ℕ → ℕ → Protocol
sent_at_once p request transaction_id now = record p {
  agent = with_request p.agent (request_text p.auth request transaction_id) p.server now;
}

-- A request with the next transaction ID is sent.
pub record IsMade (old : Protocol) (request : TurnRequest) (transaction_id : ℕ) (sent : Sent) : Type 0 where
  pub is_next : IsNextNumber old transaction_id
  pub is_sent : sent ≡ record {
    bytes = request_text old.auth request transaction_id;
    transport = old.agent.transport;
    from = old.agent.here;
    to = old.server;
  }

-- The client after it sent the first ALLOCATE.
unfoldable pub first_allocated : ℕ → ℕ → Protocol → Protocol
first_allocated transaction_id now p =
    record (sent_at_once (after_number p) (FirstAllocate p.allocates p.families p.options) transaction_id now) {
      phase = InitialSent (transaction_id ∷ []);
    }

pub record IsFirstSent (old : Protocol) (now : ℕ) (sent : Sent) (new : Protocol) : Type 0 where
  pub number : ℕ
  pub lawful : IsLawfulAllocate old.families old.options
  pub made : IsMade old (FirstAllocate old.allocates old.families old.options) number sent
  pub after : new ≡ after_sending now (first_allocated number now old)

-- The client after it sent a REFRESH for the first allocation for which something is to be sent.
unfoldable pub first_refreshed : ℕ → ℕ → Protocol → Protocol
first_refreshed transaction_id now p =
    record (sent_at_once (after_number p) (RefreshRequest p.options.lifetime) transaction_id now) {
      allocations = refreshed_first now (record { number = transaction_id; lifetime = p.options.lifetime }) p.allocations;
    }

pub record IsRefreshSent (old : Protocol) (now : ℕ) (sent : Sent) (new : Protocol) : Type 0 where
  pub number : ℕ
  pub lawful : IsLawfulRequest (RefreshRequest old.options.lifetime)
  pub made : IsMade old (RefreshRequest old.options.lifetime) number sent
  pub after : new ≡ after_sending now (first_refreshed number now old)

-- The client after it sent a CREATE_PERMISSION for an address, which renews the first permission that is due.
unfoldable pub first_permitted : IpAddr → ℕ → ℕ → Protocol → Protocol
first_permitted ip transaction_id now p = record (sent_at_once (after_number p) (CreatePermission (ip ∷ [])) transaction_id now) {
  allocations = renewal_first now transaction_id p.allocations;
}

pub record IsRenewalSent (old : Protocol) (ip : IpAddr) (now : ℕ) (sent : Sent) (new : Protocol) : Type 0 where
  pub number : ℕ
  pub lawful : IsLawfulRequest (CreatePermission (ip ∷ []))
  pub made : IsMade old (CreatePermission (ip ∷ [])) number sent
  pub after : new ≡ after_sending now (first_permitted ip number now old)

-- The client after it sent a CHANNEL_BIND, which renews the first channel that is due.
unfoldable pub first_bound : (channel : ℕ) → SocketAddr → ℕ → ℕ → Protocol → Protocol
first_bound channel peer transaction_id now p = record (sent_at_once (after_number p) (ChannelBind channel peer) transaction_id now) {
  allocations = channel_renewal_first now transaction_id p.allocations;
}

pub record IsChannelRenewalSent (old : Protocol) (channel : ℕ) (peer : SocketAddr) (now : ℕ) (sent : Sent)
    (new : Protocol) : Type 0 where
  pub number : ℕ
  pub lawful : IsLawfulRequest (ChannelBind channel peer)
  pub made : IsMade old (ChannelBind channel peer) number sent
  pub after : new ≡ after_sending now (first_bound channel peer number now old)

-- ---- all of it

-- Something is sent, and `Is` holds for it.
abbrev pub Sends : Option Sent → (Sent → Type 0) → Type 0
Sends answer Is = MatchOption answer ⊥ Is

-- The renewal that is sent, by what is to be renewed: an allocation, a channel to a peer, or a permission for
-- an address.
abbrev pub IsRenewed : Option Want → Protocol → ℕ → Option Sent → Protocol → Type 0
IsRenewed None old now answer new = IsStill old answer new
IsRenewed (Some Refresh) old now answer new = Sends answer (λ sent. IsRefreshSent old now sent new)
IsRenewed (Some (Channel channel peer)) old now answer new =
    Sends answer (λ sent. IsChannelRenewalSent old channel peer now sent new)
IsRenewed (Some (Permission ip)) old now answer new = Sends answer (λ sent. IsRenewalSent old ip now sent new)

-- The message that is made, by the client's phase: the first ALLOCATE, or a renewal.
abbrev pub IsStarted : Phase → Protocol → ℕ → Option Sent → Protocol → Type 0
IsStarted Initial old now answer new = Sends answer (λ sent. IsFirstSent old now sent new)
IsStarted Authenticated old now answer new = IsRenewed (wanted now old.allocations) old now answer new
IsStarted _ old now answer new = IsStill old answer new

-- The first message of the queue is sent; if there is none, a message that is made now.
abbrev pub IsNextSent : List Queued → Protocol → ℕ → Option Sent → Protocol → Type 0
IsNextSent (q ∷ rest) old now answer new = Sends answer (λ sent. IsQueuedSent old now q rest sent new)
IsNextSent [] old now answer new = IsStarted old.phase old now answer new

-- What is sent if no retransmission is due. For a short time after the last message, only replies to the
-- server are sent.
abbrev pub IsFreshSent : Protocol → ℕ → Option Sent → Protocol → Type 0
IsFreshSent old now answer new = MatchBool (is_resting (pace_of old) old.last_send now)
    (IsAnswerSent (find is_answer old.queue) old answer new)
    (IsNextSent old.queue old now answer new)

-- What `poll_transmit` returns. A retransmission that is due comes first.
pub data IsTransmitted (old : Protocol) (now : ℕ) (answer : Option Sent) (new : Protocol) : Type 0 where
  Again : (sent : Sent) → answer ≡ Some sent → IsRepeated old now sent new → IsTransmitted old now answer new
  Fresh : NoneDue old.agent now → IsFreshSent old now answer new → IsTransmitted old now answer new

-- ---- when an allocation of memory may fail

-- A retransmission is due, and its bytes are returned.
pub record HasToRepeat (old : Protocol) (now : ℕ) : Type 0 where
  pub number : ℕ
  pub transaction : Transaction
  pub least : IsLeast (is_due_of old.agent now) old.agent.outstanding number transaction

-- A request is to be made, by the client's phase: the first ALLOCATE, or a renewal.
abbrev pub HasToBegin : Phase → List Allocation → ℕ → Type 0
HasToBegin Initial allocations now = Unit {0}
HasToBegin Authenticated allocations now = wanted now allocations ≢ None
HasToBegin _ allocations now = ⊥

-- No retransmission is due, the time since the last message is long enough, no message is queued, and a
-- request is to be made.
pub record HasToMake (old : Protocol) (now : ℕ) : Type 0 where
  pub none_due : NoneDue old.agent now
  pub free : is_resting (pace_of old) old.last_send now ≡ false
  pub none_waits : old.queue ≡ []
  pub begins : HasToBegin old.phase old.allocations now

-- The client has something to send that isn't queued. Sending a queued message needs no memory.
abbrev pub HasToSend : Protocol → ℕ → Type 0
HasToSend old now = HasToRepeat old now ⊎ HasToMake old now
