-- The invariant of the parts of a client that a run looks at.
use Rattle.std.proofs.Common.{◌≡◌, ℕ, List, [], ◌∷◌, ◌++◌, Some, None, refl, sym, subst, inl, inr}
use Rattle.std.specs.declared.net.socket_addr.SocketAddr.{SocketAddr}
use Rattle.turn_client_proto_timers.specs.StunTypesWire.Grammar.{number_at, refusal}
use Rattle.turn_client_proto_timers.specs.StunTypesBase.declared.transport.TransportType.{TransportType}
use Rattle.turn_client_proto_timers.specs.StunProtoAgent.Numbers.{NothingNew}
use Rattle.turn_client_proto_timers.specs.StunProtoAgent.Sending.{with_request}
use Rattle.turn_client_proto_timers.specs.StunProtoAgent.State.{Agent}
use Rattle.turn_client_proto_timers.proofs.StunProtoAgent.Numbers.{sent, sent_shows, still_shows}
use Rattle.turn_client_proto_recv.specs.TurnTypesAttributes.TurnRegistry.{allocate_method}
use Rattle.turn_client_proto_timers.specs.TurnRuns.Members.{IsIn}
use Rattle.turn_client_proto_timers.specs.Peers.Channel.Numbers.{AreDistinct}
use Rattle.turn_client_proto_timers.specs.TurnRuns.Messages.{Asks, Gain, Held, Holds, Knows, Permission, Channel, Connection}
use Rattle.turn_client_proto_timers.specs.TurnRuns.StunWire.{decoded_by}
use Rattle.turn_client_proto_timers.specs.Messages.Waiting.{Queued}
use Rattle.turn_client_proto_timers.specs.Core.declared.protocol.Phase.{Phase}
use Rattle.turn_client_proto_timers.specs.Core.declared.protocol.Phase.TheVariants.{Initial, InitialSent, Authenticating, Authenticated, Ended}
use Rattle.turn_client_proto_step_laws.specs.ClientWords.{IsPending, OfBinding, OfChannel, OfConnect, OfNewChannel, OfNewPermission}
use Rattle.turn_client_proto_step_laws.specs.Held.{Allocation, PendingRefresh}
use Rattle.turn_client_proto_step_laws.specs.RunClient.{Parts}
use Rattle.turn_client_proto_step_laws.specs.Sound.{AreAllocates, AreShort, AsksFor, AsksOf, BeforeAllocated, IsOrderly, IsReady, UntilEnded}
use Rattle.turn_client_proto_step_laws.proofs.Adding.{AreLess}
use Rattle.turn_client_proto_step_laws.proofs.Agents.{allocates_sent, messages_sent, still_allocates, still_messages}
use Rattle.turn_client_proto_step_laws.proofs.Lessening.{still_short}
use Rattle.turn_client_proto_step_laws.proofs.Lists.{in_either}

-- ---- by how far the client is

pub before_all : {A : Type 0} (phase : Phase) → A → BeforeAllocated phase A
before_all Initial is = is
before_all (InitialSent numbers) is = is
before_all (Authenticating numbers) is = is
before_all Authenticated is = tt
before_all Ended is = tt

before_map : {A B : Type 0} (phase : Phase) → (A → B) → BeforeAllocated phase A → BeforeAllocated phase B
before_map Initial f is = f is
before_map (InitialSent numbers) f is = f is
before_map (Authenticating numbers) f is = f is
before_map Authenticated f is = tt
before_map Ended f is = tt

before_both : {A B C : Type 0} (phase : Phase) → (A → B → C) → BeforeAllocated phase A → BeforeAllocated phase B → BeforeAllocated phase C
before_both Initial f a b = f a b
before_both (InitialSent numbers) f a b = f a b
before_both (Authenticating numbers) f a b = f a b
before_both Authenticated f a b = tt
before_both Ended f a b = tt

pub until_all : {A : Type 0} (phase : Phase) → A → UntilEnded phase A
until_all Initial is = is
until_all (InitialSent numbers) is = is
until_all (Authenticating numbers) is = is
until_all Authenticated is = is
until_all Ended is = tt

pub until_map : {A B : Type 0} (phase : Phase) → (A → B) → UntilEnded phase A → UntilEnded phase B
until_map Initial f is = f is
until_map (InitialSent numbers) f is = f is
until_map (Authenticating numbers) f is = f is
until_map Authenticated f is = f is
until_map Ended f is = tt

-- ---- the parts

pub still_asks : (old new : Agent) → NothingNew old new → (gain : Gain) (n : ℕ) → AsksOf old gain n → AsksOf new gain n
still_asks old new none gain n asks t outstanding =
    let was = none n t outstanding in
    subst (λ (b : List ℕ). Asks (decoded_by b) gain) (sym was.same_bytes) (asks was.before was.there)

pub agent_orderly : (p : Parts) (agent : Agent) → NothingNew p.agent agent → IsOrderly p → IsOrderly (record p { agent = agent })
agent_orderly p agent none is = record {
  numbers = still_shows p.agent agent none is.numbers;
  messages = still_messages p.agent agent none is.messages;
  allocates = before_map p.phase (λ h. still_allocates p.agent agent none p.allocates h) is.allocates;
  queued = is.queued;
  lifetimes = is.lifetimes;
  permissions = λ a listed p there n has ip named. asks_still (Permission a.transport ip) n (is.permissions a listed p there n has ip named);
  channels = λ a listed. let requested = is.channels a listed in record {
    requested = λ c there n has. asks_still (Channel c.channel c.peer) n (requested.requested c there n has);
    renewed = λ c there n has. asks_still (Channel c.number c.peer) n (requested.renewed c there n has);
  };
  peers = is.peers;
  connects = λ a listed. let requested = is.connects a listed in record {
    requested = λ c there. still_asks p.agent agent none (Knows 0 c.peer) c.number (requested.requested c there);
    whole = requested.whole;
    binds = λ c there b awaits. asks_still (Connection c.here c.peer c.connection) b.number (requested.binds c there b awaits);
  };
  distinct = is.distinct;
}
  where
    asks_still : (held : Held) (n : ℕ) → AsksFor p.agent held n → AsksFor agent held n
    asks_still held n asks = still_asks p.agent agent none (Holds held) n asks

-- A transaction ID that no allocation awaits.
abbrev pub IsFree : Parts → ℕ → Type 0
IsFree p number = (a : Allocation) → IsIn a p.allocations → IsPending number a → ⊥

-- The bytes are an ALLOCATE for a client's transport.
abbrev pub IsAllocate : Parts → List ℕ → Type 0
IsAllocate p bytes = ((decoded_by bytes).method ≡ allocate_method) × ((decoded_by bytes).transport ≡ Some p.allocates)

pub request_orderly : (p : Parts) (bytes : List ℕ) (to : SocketAddr) (now : ℕ) → refusal bytes ≡ None → IsFree p (number_at bytes) → BeforeAllocated p.phase (IsAllocate p bytes) → IsOrderly p
    → IsOrderly (record p { agent = with_request p.agent bytes to now })
request_orderly p bytes to now message free allocate is = record {
  numbers = sent_shows p.agent bytes to now is.numbers;
  messages = messages_sent p.agent bytes to now message is.messages;
  allocates = before_both p.phase (λ (own : IsAllocate p bytes) h. allocates_sent p.agent bytes to now p.allocates own.0 own.1 h) allocate is.allocates;
  queued = is.queued;
  lifetimes = is.lifetimes;
  permissions = λ a listed pending there n has ip named.
      asks_yet a listed (Holds (Permission a.transport ip)) n (OfNewPermission pending there has) (is.permissions a listed pending there n has ip named);
  channels = λ a listed. let requested = is.channels a listed in record {
    requested = λ c there n has. asks_yet a listed (Holds (Channel c.channel c.peer)) n (OfNewChannel c there has) (requested.requested c there n has);
    renewed = λ c there n has. asks_yet a listed (Holds (Channel c.number c.peer)) n (OfChannel c there has) (requested.renewed c there n has);
  };
  peers = is.peers;
  connects = λ a listed. let requested = is.connects a listed in record {
    requested = λ c there. asks_yet a listed (Knows 0 c.peer) c.number (OfConnect c there refl) (requested.requested c there);
    whole = requested.whole;
    binds = λ c there b awaits. asks_yet a listed (Holds (Connection c.here c.peer c.connection)) b.number (OfBinding c there b awaits refl) (requested.binds c there b awaits);
  };
  distinct = is.distinct;
}
  where
    -- What is awaited with a transaction ID is not what is sent.
    asks_yet : (a : Allocation) → IsIn a p.allocations → (gain : Gain) (n : ℕ) → IsPending n a → AsksOf p.agent gain n → AsksOf (with_request p.agent bytes to now) gain n
    asks_yet a listed gain n pending asks t outstanding = elim (sent p.agent bytes to now n t outstanding) [
      | inl before ↦ asks t before
      | inr own ↦ absurd (free a listed (subst (λ (k : ℕ). IsPending k a) own.0 pending))
    ]

pub queue_orderly : (p : Parts) (q : Queued) → IsReady q → IsOrderly p → IsOrderly (record p { queue = p.queue ++ q ∷ [] })
queue_orderly p q ready is = record {
  numbers = is.numbers;
  messages = is.messages;
  allocates = is.allocates;
  queued = λ x h. elim (in_either x p.queue (q ∷ []) h) [
    | inl was ↦ is.queued x was
    | inr own ↦ elim own [ inl same ↦ subst IsReady same ready | inr none ↦ absurd none ]
  ];
  lifetimes = is.lifetimes;
  permissions = is.permissions;
  channels = is.channels;
  peers = is.peers;
  connects = is.connects;
  distinct = is.distinct;
}

pub transmitted_orderly : (p : Parts) (rest : List Queued) → ((x : Queued) → IsIn x rest → IsIn x p.queue) → IsOrderly p → IsOrderly (record p { queue = rest })
transmitted_orderly p rest waited is = record {
  numbers = is.numbers;
  messages = is.messages;
  allocates = is.allocates;
  queued = λ x h. is.queued x (waited x h);
  lifetimes = is.lifetimes;
  permissions = is.permissions;
  channels = is.channels;
  peers = is.peers;
  connects = is.connects;
  distinct = is.distinct;
}

pub phase_orderly : (p : Parts) (phase : Phase) → BeforeAllocated phase (AreAllocates p.allocates p.agent) → IsOrderly p → IsOrderly (record p { phase = phase })
phase_orderly p phase allocates is = record {
  numbers = is.numbers;
  messages = is.messages;
  allocates = allocates;
  queued = is.queued;
  lifetimes = is.lifetimes;
  permissions = is.permissions;
  channels = is.channels;
  peers = is.peers;
  connects = is.connects;
  distinct = is.distinct;
}

pub allocations_orderly : (more : List PendingRefresh) (p : Parts) (new : List Allocation) → AreLess more p.allocations new → AreShort more → AreDistinct new → IsOrderly p → IsOrderly (record p { allocations = new })
allocations_orderly more p new less short distinct is = record {
  numbers = is.numbers;
  messages = is.messages;
  allocates = is.allocates;
  queued = is.queued;
  lifetimes = still_short more p.allocations new less short is.lifetimes;
  permissions = λ a listed pending there n has ip named.
      let was = less a listed in
      subst (λ (transport : TransportType). AsksFor p.agent (Permission transport ip) n) (sym was.less.transport)
      (is.permissions was.before was.listed pending (was.less.new_permissions pending there) n has ip named);
  channels = λ a listed. let was = less a listed in let requested = is.channels was.before was.listed in record {
    requested = λ c there n has. requested.requested c (was.less.new_channels c there) n has;
    renewed = λ c there n has. requested.renewed c (was.less.channels c there) n has;
  };
  peers = λ a listed. let was = less a listed in let whole = is.peers was.before was.listed in record {
    requested = λ c there. whole.requested c (was.less.new_channels c there);
    standing = λ c there. whole.standing c (was.less.channels c there);
  };
  connects = λ a listed. let was = less a listed in let requested = is.connects was.before was.listed in record {
    requested = λ c there. requested.requested c (was.less.connecting c there);
    whole = λ c there. requested.whole c (was.less.connecting c there);
    binds = λ c there b awaits. requested.binds c (was.less.connections c there) b awaits;
  };
  distinct = distinct;
}
