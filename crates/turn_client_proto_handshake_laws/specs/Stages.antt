-- The stages of a client in a handshake, each by the client's state (RFC 8489, sections 9.2.3 and 9.2.5; RFC
-- 8656, sections 7.1, 7.3 and 7.4).
use Rattle.std.specs.Prelude.{◌≡◌, ℕ, List, [], ◌∷◌, map, Some, None}
use Rattle.std.specs.FinMap as finite
use Rattle.std.specs.declared.net.socket_addr.SocketAddr.{SocketAddr}
use Rattle.turn_client_proto_api.specs.StunTypesWire.Attributes.{kind_at}
use Rattle.stun_types_base.specs.Family.{family_of_socket}
use Rattle.turn_client_proto_api.specs.StunTypesWire.Grammar.{number_at}
use Rattle.turn_client_proto_api.specs.StunTypesWire.declared.class.MessageClass.TheVariants.{Success}
use Rattle.turn_client_proto_api.specs.StunTypesWire.Types.{class_of}
use Rattle.turn_client_proto_messages.specs.StunProtoClient.Client.{standing_key}
use Rattle.turn_client_proto_messages.specs.StunProtoClient.ClientValidation.{going_by}
use Rattle.turn_client_proto_messages.specs.StunProtoClient.Digests.{IsRight}
use Rattle.turn_client_proto_messages.specs.Allocation.Listed.{relayed_listed}
use Rattle.turn_client_proto_messages.specs.Allocation.Refreshing.{granted}
use Rattle.turn_client_proto_api.specs.declared.answer.TurnPollRet.{TurnPollRet}
use Rattle.turn_client_proto_api.specs.declared.answer.TurnPollRet.TheVariants as answer
use Rattle.turn_client_proto_api.specs.declared.event.TurnEvent.{TurnEvent}
use Rattle.turn_client_proto_api.specs.declared.event.TurnEvent.TheVariants.{AllocationCreated}
use Rattle.turn_client_proto_api.specs.declared.event.TurnEvent.TheVariants.{AllocationCreateFailed}
use Rattle.turn_client_proto_core.specs.Asking.{queued_request}
use Rattle.turn_client_proto_messages.specs.Waiting.{Queued}
use Rattle.turn_client_proto_core.specs.declared.protocol.Phase.TheVariants.{InitialSent, Authenticating}
use Rattle.turn_client_proto_core.specs.declared.protocol.Phase.TheVariants.{Authenticated, Ended}
use Rattle.turn_client_proto_core.specs.declared.protocol.Protocol.{Protocol}
use Rattle.turn_client_proto_timers.specs.Polling.{pace_of}
use Rattle.turn_client_proto_messages.specs.Judging.{signer_of}
use Rattle.turn_client_proto_messages.specs.Reported.{lifetime_reported, relayed_reported}
use Rattle.turn_client_proto_handshake_laws.specs.Requested.{Requested, IsOnlyRequested}
use Rattle.turn_client_proto_handshake_laws.specs.Choosing.{Choice, IsChoice, signed_requested, signed_request}
use Rattle.turn_client_proto_handshake_laws.specs.Choosing.{signer_by, standing_by}
use Rattle.turn_client_proto_handshake_laws.specs.Sent.{Beginning, IsUsual, first_number, first_request}

-- ---- what no stage changes

-- The server, the client's own address and transport, its waits and its pace, what it requests, and whether it
-- accepts indications are those of its start, and as usual; it has not failed.
pub record IsOf (b : Beginning) (p : Protocol) : Type 0 where
  pub server : p.server ≡ b.server
  pub remote : p.agent.remote ≡ Some b.server
  pub transport : p.agent.transport ≡ b.transport
  pub here : p.agent.here ≡ b.here
  pub waits : p.agent.waits ≡ b.config.waits
  pub allocates : p.allocates ≡ b.config.transport
  pub families : p.families ≡ b.config.families
  pub options : p.options ≡ b.config.options
  pub pace : pace_of p ≡ b.config.pace
  pub indications : p.attempt_indications ≡ b.config.attempt_indications
  pub usual : IsUsual b.config

-- ---- the first ALLOCATE is sent

abbrev pub first_requested : Beginning → Requested
first_requested b = record { number = first_number b; bytes = first_request b; made = b.made }

-- The first ALLOCATE is the only outstanding request. It was transmitted `many` times, the last time at
-- `last`. No message and no event is queued.
pub record IsAsking (b : Beginning) (many last : ℕ) (p : Protocol) : Type 0 where
  pub settings : IsOf b p
  pub requested : IsOnlyRequested b (first_requested b) many p.agent
  pub phase : p.phase ≡ InitialSent (first_number b ∷ [])
  pub auth : p.auth ≡ signer_of b.config
  pub allocations : p.allocations ≡ []
  pub queue : p.queue ≡ []
  pub last_send : p.last_send ≡ Some last
  pub events : p.events ≡ []
  pub closing : p.closing ≡ []
  pub resends : p.resends ≡ 0

-- ---- a challenge was returned

-- The signed ALLOCATE is the only outstanding request. These messages are queued, and no event is.
pub record IsSigning (b : Beginning) (c : Choice) (many last : ℕ) (queue : List Queued) (p : Protocol) : Type 0 where
  pub settings : IsOf b p
  pub choice : IsChoice b c
  pub requested : IsOnlyRequested b (signed_requested b c) many p.agent
  pub phase : p.phase ≡ Authenticating (first_number b ∷ c.number ∷ [])
  pub auth : p.auth ≡ signer_by b c
  pub allocations : p.allocations ≡ []
  pub queue_is : p.queue ≡ queue
  pub last_send : p.last_send ≡ Some last
  pub events : p.events ≡ []
  pub closing : p.closing ≡ []
  pub resends : p.resends ≡ 1

-- The signed ALLOCATE as it is queued.
abbrev pub signed_queued : Beginning → Choice → Queued
signed_queued b c = queued_request b.here (signed_request b c)

-- The signed ALLOCATE is queued. It counts as transmitted once from the start. With short waits it may be
-- transmitted again before it leaves the queue.
abbrev pub HasChosen : Beginning → Choice → (many last : ℕ) → Protocol → Type 0
HasChosen b c many last p = IsSigning b c many last (signed_queued b c ∷ []) p

-- The signed ALLOCATE was transmitted from the queue, and no message is queued.
abbrev pub HasSigned : Beginning → Choice → (many last : ℕ) → Protocol → Type 0
HasSigned b c many last p = IsSigning b c many last [] p

-- ---- the server has allocated

-- The message is the success response to the signed ALLOCATE, valid under the key of the credentials, with
-- only this relayed address, and with this lifetime in seconds.
pub record IsGrant (b : Beginning) (c : Choice) (address : SocketAddr) (lifetime : ℕ) (bytes : List ℕ) : Type 0 where
  pub number : number_at bytes ≡ c.number
  pub success : class_of (kind_at bytes) ≡ Success
  pub right : IsRight bytes (standing_key (standing_by b c))
  pub relayed : relayed_reported bytes ≡ address ∷ []
  pub lifetime_is : lifetime_reported bytes ≡ Some lifetime

-- The client requests an address of this address's family, and of no other.
abbrev pub AsksForOne : Beginning → SocketAddr → Type 0
AsksForOne b address = b.config.families ≡ family_of_socket address ∷ []

-- The client holds that allocation alone, for that lifetime from `now` on. No request is outstanding, and
-- these messages and events are queued.
pub record Holds (b : Beginning) (c : Choice) (address : SocketAddr) (lifetime now last : ℕ) (queue : List Queued)
    (events : List TurnEvent) (p : Protocol) : Type 0 where
  pub settings : IsOf b p
  pub none_requested : (transaction_id : ℕ) → finite.get p.agent.outstanding transaction_id ≡ None
  pub phase : p.phase ≡ Authenticated
  pub auth : p.auth ≡ going_by (signer_by b c) (Some c.algorithm)
  pub allocations : p.allocations ≡ granted b.config.transport address lifetime now ∷ []
  pub visible : relayed_listed p.allocations ≡ (b.config.transport, address) ∷ []
  pub queue_is : p.queue ≡ queue
  pub last_send : p.last_send ≡ Some last
  pub events_are : p.events ≡ events
  pub closing : p.closing ≡ []
  pub resends : p.resends ≡ 0

-- The event for the allocation.
abbrev pub created : Beginning → SocketAddr → List TurnEvent
created b address = AllocationCreated b.config.transport address ∷ []

-- ---- the end

-- The events that no address was allocated, for each family in order.
abbrev pub failures : Beginning → List TurnEvent
failures b = map AllocationCreateFailed b.config.families

-- The client has ended: it holds nothing, awaits nothing and transmits nothing more. These events are queued.
pub record HasEnded (b : Beginning) (events : List TurnEvent) (p : Protocol) : Type 0 where
  pub settings : IsOf b p
  pub none_requested : (transaction_id : ℕ) → finite.get p.agent.outstanding transaction_id ≡ None
  pub phase : p.phase ≡ Ended
  pub allocations : p.allocations ≡ []
  pub queue : p.queue ≡ []
  pub events_are : p.events ≡ events

-- What `poll` returns then: `WaitUntil` now while an event is queued, and `Closed` once none is.
abbrev pub answer_at_end : List TurnEvent → (now : ℕ) → TurnPollRet
answer_at_end [] now = answer.Closed
answer_at_end (e ∷ events) now = answer.WaitUntil now
