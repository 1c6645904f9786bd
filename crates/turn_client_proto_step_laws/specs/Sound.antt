-- A client's invariant (RFC 8489, sections 5, 6 and 9.2; RFC 8656, sections 7, 8, 10 and 12; RFC 6062,
-- section 4).
use Rattle.std.specs.Prelude.{◌≡◌, ◌⊎◌, ℕ, ◌*◌, ◌<◌, ◌≤◌, ◌^◌, Bool, List, false, true, length, Some, None}
use Rattle.std.specs.FinMap as map
use Rattle.rand_chacha.specs.ChaCha.{ChaCha, next_word}
use Rattle.rand_core.specs.Steps.{steps_u32, stream_of}
use Rattle.rand_core.specs.Stream.{Stream}
use Rattle.turn_client_proto_timers.specs.StunTypesWire.Generated.{number_words}
use Rattle.turn_client_proto_timers.specs.StunTypesBase.GeneratorWords.{stream_after}
use Rattle.turn_client_proto_timers.specs.StunTypesWire.Attributes.{kind_at}
use Rattle.turn_client_proto_timers.specs.StunTypesWire.Grammar.{refusal}
use Rattle.turn_client_proto_timers.specs.StunTypesWire.Types.{class_of}
use Rattle.turn_client_proto_timers.specs.StunTypesBase.declared.transport.TransportType.{TransportType}
use Rattle.turn_client_proto_timers.specs.StunProtoTransaction.Agents.{Transaction}
use Rattle.turn_client_proto_timers.specs.StunProtoAgent.Numbers.{ShowsNumbers}
use Rattle.turn_client_proto_timers.specs.StunProtoAgent.State.{Agent}
use Rattle.turn_client_proto_recv.specs.TurnTypesAttributes.TurnRegistry.{allocate_method}
use Rattle.turn_client_proto_timers.specs.TurnRuns.Members.{IsIn}
use Rattle.std.specs.Net.Socket.{IsSocketAddr, socket_flowinfo, socket_scope_id}
use Rattle.std.specs.declared.net.ip_addr.IpAddr.{IpAddr}
use Rattle.std.specs.declared.net.socket_addr.SocketAddr.{SocketAddr}
use Rattle.turn_client_proto_timers.specs.Allocation.Permissions.{addresses_of}
use Rattle.turn_client_proto_timers.specs.Peers.Channel.Numbers.{AreDistinct}
use Rattle.turn_client_proto_timers.specs.TurnRuns.Messages.{Asks, Gain, Held, Holds, IsResponse, Knows, Permission, Channel as ChannelHeld, Connection as ConnectionHeld}
use Rattle.turn_client_proto_timers.specs.TurnRuns.StunWire.{decoded_by}
use Rattle.turn_client_proto_timers.specs.Messages.Waiting.{Queued}
use Rattle.turn_client_proto_timers.specs.Core.declared.protocol.Protocol.{Protocol}
use Rattle.turn_client_proto_timers.specs.Core.declared.protocol.Phase.{Phase}
use Rattle.turn_client_proto_timers.specs.Core.declared.protocol.Phase.TheVariants.{Initial, InitialSent, Authenticating, Authenticated, Ended}
use Rattle.turn_client_proto_timers.specs.Messages.ShortTexts.{HasShortTexts}
use Rattle.turn_client_proto_step_laws.specs.Held.{Allocation, Binding, Channel, Connecting, Connection, PendingChannel, PendingPermission, PendingRefresh}
use Rattle.turn_client_proto_step_laws.specs.RunClient.{Client, Parts, parts_of}

-- ---- what is outstanding

-- Each outstanding request parses as a message.
abbrev pub AreMessages : Agent → Type 0
AreMessages agent = (transaction_id : ℕ) (t : Transaction) → map.get agent.outstanding transaction_id ≡ Some t → refusal t.bytes ≡ None

-- Each outstanding request is an ALLOCATE for this transport.
abbrev pub AreAllocates : TransportType → Agent → Type 0
AreAllocates transport agent = (transaction_id : ℕ) (t : Transaction) → map.get agent.outstanding transaction_id ≡ Some t
    → ((decoded_by t.bytes).method ≡ allocate_method) × ((decoded_by t.bytes).transport ≡ Some transport)

-- The statement holds until the server has allocated.
abbrev pub BeforeAllocated : Phase → Type 0 → Type 0
BeforeAllocated Initial Is = Is
BeforeAllocated (InitialSent numbers) Is = Is
BeforeAllocated (Authenticating numbers) Is = Is
BeforeAllocated Authenticated Is = Unit {0}
BeforeAllocated Ended Is = Unit {0}

-- Each lifetime that a pending REFRESH requests fits into four bytes.
abbrev pub AreShort : List PendingRefresh → Type 0
AreShort refreshes = (r : PendingRefresh) → IsIn r refreshes → r.lifetime < 2 ^ 32

-- ---- what is requested

-- The request that is outstanding with this transaction ID, if there is one, asks for this.
abbrev pub AsksOf : Agent → Gain → ℕ → Type 0
AsksOf agent gain transaction_id = (t : Transaction) → map.get agent.outstanding transaction_id ≡ Some t → Asks (decoded_by t.bytes) gain

abbrev pub AsksFor : Agent → Held → ℕ → Type 0
AsksFor agent held transaction_id = AsksOf agent (Holds held) transaction_id

-- An outstanding request with a transaction ID of a pending permission asks for a permission for each of its
-- addresses.
abbrev pub AreRequested : Agent → Allocation → Type 0
AreRequested agent a = (p : PendingPermission) → IsIn p a.pending_permissions → (transaction_id : ℕ) → IsIn transaction_id p.numbers
    → (ip : IpAddr) → IsIn ip (addresses_of p) → AsksFor agent (Permission a.transport ip) transaction_id

-- An outstanding request with a transaction ID of a pending channel, or of a channel's renewal, asks for that
-- very channel.
pub record AreBinding (agent : Agent) (a : Allocation) : Type 0 where
  pub requested : (c : PendingChannel) → IsIn c a.pending_channels → (transaction_id : ℕ) → IsIn transaction_id c.numbers
      → AsksFor agent (ChannelHeld c.channel c.peer) transaction_id
  pub renewed : (c : Channel) → IsIn c a.channels → (transaction_id : ℕ) → IsIn transaction_id c.renewals
      → AsksFor agent (ChannelHeld c.number c.peer) transaction_id

-- An address that XOR-PEER-ADDRESS carries completely: it has no flow information and no scope.
pub record IsWhole (peer : SocketAddr) : Type 0 where
  pub own : IsSocketAddr peer
  pub flow : socket_flowinfo peer ≡ 0
  pub scope : socket_scope_id peer ≡ 0

-- XOR-PEER-ADDRESS carries the peers of the allocation's channels completely, so they are decoded from the
-- requests that name them.
pub record AreWhole (a : Allocation) : Type 0 where
  pub requested : (c : PendingChannel) → IsIn c a.pending_channels → IsWhole c.peer
  pub standing : (c : Channel) → IsIn c a.channels → IsWhole c.peer

-- An outstanding request with the transaction ID of a pending connection asks for a connection to that very
-- peer, whatever connection ID the server gives it, and XOR-PEER-ADDRESS carries that peer completely. An
-- outstanding request with the transaction ID that a connection awaits asks that this very connection be
-- bound.
pub record AreConnecting (agent : Agent) (a : Allocation) : Type 0 where
  pub requested : (c : Connecting) → IsIn c a.connecting → AsksOf agent (Knows 0 c.peer) c.number
  pub whole : (c : Connecting) → IsIn c a.connecting → IsWhole c.peer
  pub binds : (c : Connection) → IsIn c a.connections → (b : Binding) → c.awaited ≡ Some b
      → AsksFor agent (ConnectionHeld c.here c.peer c.connection) b.number

-- A queued message is a request, or a response to a request of the server's.
abbrev pub IsReady : Queued → Type 0
IsReady q = (q.is_request ≡ true) ⊎ ((q.is_request ≡ false) × IsResponse (class_of (kind_at q.bytes)))

-- The invariant of what is pending: each outstanding request is a message, stored under its own transaction
-- ID; until the server has allocated, it is an ALLOCATE for the client's transport; queued messages are
-- requests and responses; requested lifetimes fit into four bytes; outstanding requests ask for what the
-- allocations await; XOR-PEER-ADDRESS carries the peers of channels completely; and no two channels have the
-- same number.
pub record IsOrderly (p : Parts) : Type 0 where
  pub numbers : ShowsNumbers p.agent
  pub messages : AreMessages p.agent
  pub allocates : BeforeAllocated p.phase (AreAllocates p.allocates p.agent)
  pub queued : (q : Queued) → IsIn q p.queue → IsReady q
  pub lifetimes : (a : Allocation) → IsIn a p.allocations → AreShort a.pending_refreshes
  pub permissions : (a : Allocation) → IsIn a p.allocations → AreRequested p.agent a
  pub channels : (a : Allocation) → IsIn a p.allocations → AreBinding p.agent a
  pub peers : (a : Allocation) → IsIn a p.allocations → AreWhole a
  pub connects : (a : Allocation) → IsIn a p.allocations → AreConnecting p.agent a
  pub distinct : AreDistinct p.allocations

-- ---- what a client needs to ask for something

-- The words that a generator will give.
abbrev pub stream_from : ChaCha → Stream
stream_from rng = stream_of (steps_u32 (next_word 10)) rng

-- At most two address families are requested, and indications are accepted if and only if `offers` is true.
abbrev pub AreSettings : (offers : Bool) → Protocol → Type 0
AreSettings offers p = (length p.families ≤ 2) × (p.attempt_indications ≡ offers)

-- The client signs under its own name and password, and no others were set for the next challenge; its texts fit
-- into a request; its settings are those of its start; and its generator is at the index of its next transaction
-- ID in the stream of its seed.
pub record CanAsk (c : Client) : Type 0 where
  pub account : c.core.auth.account ≡ Some c.credentials
  pub settled : c.core.auth.next_account ≡ None
  pub texts : HasShortTexts c.core.auth
  pub settings : AreSettings c.offers c.core
  pub words : stream_from c.core.rng ≡ stream_after (number_words * c.transmitted) c.seed

-- The statement holds until the client has ended: from then on it makes no request.
abbrev pub UntilEnded : Phase → Type 0 → Type 0
UntilEnded Initial Is = Is
UntilEnded (InitialSent numbers) Is = Is
UntilEnded (Authenticating numbers) Is = Is
UntilEnded Authenticated Is = Is
UntilEnded Ended Is = Unit {0}

pub record IsSound (c : Client) : Type 0 where
  pub orderly : IsOrderly (parts_of c.core)
  pub can_ask : UntilEnded c.core.phase (CanAsk c)
