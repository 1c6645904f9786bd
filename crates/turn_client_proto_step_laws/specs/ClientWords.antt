-- The client in the vocabulary of a run. Each definition looks at one part of the client only, so that a step
-- which does not change that part preserves it.
use Rattle.std.specs.Prelude.{◌≡◌, ℕ, true, false, List, Option, Some, None}
use Rattle.std.specs.FinMap as map
use Rattle.std.specs.List.{filter_map}
use Rattle.std.specs.Option.{option_map}
use Rattle.std.specs.declared.net.socket_addr.SocketAddr.{SocketAddr}
use Rattle.turn_client_proto_timers.specs.StunTypesWire.Grammar.{number_at}
use Rattle.turn_client_proto_timers.specs.StunTypesWire.declared.algorithm.IntegrityAlgorithm.{IntegrityAlgorithm}
use Rattle.turn_client_proto_timers.specs.StunProtoTransaction.Agents.{Transaction}
use Rattle.turn_client_proto_recv.specs.StunProtoClient.Client.{Challenge}
use Rattle.turn_client_proto_timers.specs.StunProtoAgent.State.{Agent}
use Rattle.turn_client_proto_timers.specs.TurnRuns.Members.{IsIn}
use Rattle.turn_client_proto_timers.specs.TurnRuns.Messages as run
use Rattle.turn_client_proto_timers.specs.TurnRuns.Words.{ClientWords, DeskWords, Words}
use Rattle.turn_client_proto_timers.specs.TurnRuns.StunWire.{stun_wire}
use Rattle.turn_client_proto_step_laws.specs.Held.{Allocation, Binding, Channel, Connecting, Connection, PendingChannel, PendingPermission, PendingRefresh, Permission, Waiting}
use Rattle.turn_client_proto_timers.specs.Api.declared.event.TurnEvent.{TurnEvent}
use Rattle.turn_client_proto_timers.specs.Api.declared.event.TurnEvent.TheVariants.{AllocationCreated, AllocationCreateFailed, PermissionCreated, PermissionCreateFailed, ChannelCreated, ChannelCreateFailed, TcpConnected, TcpConnectFailed}
use Rattle.turn_client_proto_timers.specs.Core.Authenticating.{numbers_sent}
use Rattle.turn_client_proto_timers.specs.Messages.Waiting.{Queued}
use Rattle.turn_client_proto_timers.specs.Core.declared.protocol.Phase.{Phase}
use Rattle.turn_client_proto_timers.specs.Core.declared.protocol.Phase.TheVariants.{Initial, InitialSent, Authenticating, Authenticated, Ended}
use Rattle.turn_client_proto_timers.specs.Core.declared.protocol.Protocol.{Protocol}
use Rattle.turn_client_proto_step_laws.specs.RunClient.{Client, Parts, numbers_between, parts_of}

-- ---- the challenge

-- The challenge under which a client signs and validates: the stored one. A client that has ended handles and
-- signs no message, so it has none.
abbrev pub challenge_in : Phase → Option Challenge → Option Challenge
challenge_in Initial stored = stored
challenge_in (InitialSent numbers) stored = stored
challenge_in (Authenticating numbers) stored = stored
challenge_in Authenticated stored = stored
challenge_in Ended stored = None

abbrev pub challenge_of : Protocol → Option Challenge
challenge_of p = challenge_in p.phase p.auth.challenge

abbrev pub realm_in : Option Challenge → Option (List ℕ)
realm_in challenge = option_map (λ (c : Challenge). c.realm) challenge

abbrev pub choice_in : Option Challenge → Option IntegrityAlgorithm
choice_in challenge = option_map (λ (c : Challenge). c.choice) challenge

-- ---- requests

-- Some outstanding request shows this message.
pub record IsOutstanding (agent : Agent) (m : run.Message) : Type 0 where
  pub number : ℕ
  pub transaction : Transaction
  pub there : map.get agent.outstanding number ≡ Some transaction
  pub shows : stun_wire.visible transaction.bytes ≡ Some m

-- Some queued request, not transmitted yet, shows this message.
pub record IsQueued (queue : List Queued) (m : run.Message) : Type 0 where
  pub queued : Queued
  pub listed : IsIn queued queue
  pub is_request : queued.is_request ≡ true
  pub shows : stun_wire.visible queued.bytes ≡ Some m

-- ---- transaction IDs

-- One of the allocation's lists contains this transaction ID.
pub data IsPending (transaction_id : ℕ) (a : Allocation) : Type 0 where
  OfPermission : (p : Permission) → IsIn p a.permissions → IsIn transaction_id p.renewals → IsPending transaction_id a
  OfChannel : (c : Channel) → IsIn c a.channels → IsIn transaction_id c.renewals → IsPending transaction_id a
  OfNewPermission : (p : PendingPermission) → IsIn p a.pending_permissions → IsIn transaction_id p.numbers → IsPending transaction_id a
  OfNewChannel : (c : PendingChannel) → IsIn c a.pending_channels → IsIn transaction_id c.numbers → IsPending transaction_id a
  OfRefresh : (r : PendingRefresh) → IsIn r a.pending_refreshes → r.number ≡ transaction_id → IsPending transaction_id a
  OfConnect : (c : Connecting) → IsIn c a.connecting → c.number ≡ transaction_id → IsPending transaction_id a
  OfAttempt : (w : Waiting) → IsIn w a.waiting → w.attempt ≡ Some transaction_id → IsPending transaction_id a
  OfBinding : (c : Connection) → IsIn c a.connections → (b : Binding) → c.awaited ≡ Some b → b.number ≡ transaction_id
      → IsPending transaction_id a

-- A transaction ID that a new request may not get: a request with it is outstanding; or an ALLOCATE was sent
-- with it, and no ALLOCATE is answered yet; or it is pending in an allocation.
pub data IsTaken (p : Parts) (transaction_id : ℕ) : Type 0 where
  Outstanding : (t : Transaction) → map.get p.agent.outstanding transaction_id ≡ Some t → IsTaken p transaction_id
  Allocating : IsIn transaction_id (numbers_sent p.phase) → IsTaken p transaction_id
  Pending : (a : Allocation) → IsIn a p.allocations → IsPending transaction_id a → IsTaken p transaction_id

-- ---- what is held

-- The allocation has this item, whether it is marked as expired or not.
pub data Has (a : Allocation) : run.Held → Type 0 where
  HasItself : Has a (run.Allocation a.transport a.address)
  HasPermission : (p : Permission) → IsIn p a.permissions → Has a (run.Permission a.transport p.ip)
  HasChannel : (c : Channel) → IsIn c a.channels → Has a (run.Channel c.number c.peer)
  HasConnection : (c : Connection) → IsIn c a.connections → c.awaited ≡ None
      → Has a (run.Connection c.here c.peer c.connection)

pub record IsStored (allocations : List Allocation) (held : run.Held) : Type 0 where
  pub allocation : Allocation
  pub listed : IsIn allocation allocations
  pub has : Has allocation held

-- What getters list: the items of the allocations that are not marked as expired.
pub record IsHeld (allocations : List Allocation) (held : run.Held) : Type 0 where
  pub allocation : Allocation
  pub listed : IsIn allocation allocations
  pub occurs : allocation.is_expired ≡ false
  pub has : Has allocation held

-- ---- connections

-- The allocation has a connection to this peer that may be bound, or is bound.
pub data Knows (a : Allocation) : (transaction_id : ℕ) (peer : SocketAddr) → Type 0 where
  ByWaiting : (w : Waiting) → IsIn w a.waiting → Knows a w.connection w.peer
  ByConnection : (c : Connection) → IsIn c a.connections → Knows a c.connection c.peer

pub record Waits (allocations : List Allocation) (transaction_id : ℕ) (peer : SocketAddr) : Type 0 where
  pub allocation : Allocation
  pub listed : IsIn allocation allocations
  pub knows : Knows allocation transaction_id peer

-- A request of the server's that is not answered, or whose response is queued.
pub data IsAttempted (allocations : List Allocation) (queue : List Queued) (transaction_id : ℕ) : Type 0 where
  IsWaiting : (a : Allocation) → IsIn a allocations → (w : Waiting) → IsIn w a.waiting → w.attempt ≡ Some transaction_id
      → IsAttempted allocations queue transaction_id
  IsAnswered : (q : Queued) → IsIn q queue → q.is_request ≡ false → number_at q.bytes ≡ transaction_id
      → IsAttempted allocations queue transaction_id

-- ---- what is reported

abbrev pub notice_of : TurnEvent → Option run.Notice
notice_of (AllocationCreated transport relayed) = Some (run.AllocationCreated transport relayed)
notice_of (PermissionCreated transport ip) = Some (run.PermissionCreated transport ip)
notice_of (ChannelCreated transport peer) = Some (run.ChannelCreated transport peer)
notice_of (TcpConnected peer) = Some (run.TcpConnected peer)
notice_of (AllocationCreateFailed family) = None
notice_of (PermissionCreateFailed transport ip) = None
notice_of (ChannelCreateFailed transport peer) = None
notice_of (TcpConnectFailed peer) = None

abbrev pub client_words : ClientWords stun_wire Client
client_words = record {
  account = λ c. c.credentials;
  realm = λ c. realm_in (challenge_of c.core);
  algorithm = λ c. choice_in (challenge_of c.core);
  seed = λ c. c.seed;
  count = λ c. c.transmitted;
  given = λ before after. numbers_between before.core.rng after.core.rng;
  IsOutstanding = λ c. IsOutstanding c.core.agent;
  IsQueued = λ c. IsQueued c.core.queue;
  IsTaken = λ c. IsTaken (parts_of c.core);
  IsStored = λ c. IsStored c.core.allocations;
  IsHeld = λ c. IsHeld c.core.allocations;
  Waits = λ c. Waits c.core.allocations;
  IsAttempted = λ c. IsAttempted c.core.allocations c.core.queue;
  AcceptsOffers = λ c. c.offers ≡ true;
  IsBuffered = λ c frame. IsIn frame c.waiting;
  created = λ c. filter_map notice_of c.core.events;
}

-- The vocabulary of a run of such a client and a server core, on STUN's bytes.
abbrev pub run_words : {D : Type 0} → DeskWords D → Words Client D
run_words desk = record { wire = stun_wire; client = client_words; desk = desk }
