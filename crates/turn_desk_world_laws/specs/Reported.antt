-- What the events of a simulation and their results are in a run of a client and a server core.
use Rattle.std.specs.Prelude.{◌≡◌, ◌≢◌, ◌⊎◌, ◌&&◌, if◌then◌else◌, ℕ, Bool, true, false, ◌++◌, List, [], ◌∷◌, filter, map, Option, Some, None, is_none, Vec}
use Rattle.std.specs.List.{filter_map}
use Rattle.std.specs.declared.alloc.Global.{Global}
use Rattle.std.specs.declared.net.ip_addr.IpAddr.{IpAddr}
use Rattle.std.specs.declared.net.socket_addr.SocketAddr.{SocketAddr}
use Rattle.turn_desk_core.specs.StunTypesAttributes.Addresses.{address_value}
use Rattle.turn_desk_core.specs.StunTypesWire.Attributes.{Attr}
use Rattle.turn_desk_core.specs.StunTypesWire.Grammar.{number_at, refusal}
use Rattle.turn_desk_core.specs.StunTypesWire.Headers.{AreBytes}
use Rattle.turn_desk_core.specs.StunTypesAttributes.Xor.{xored}
use Rattle.stun_types_base.specs.declared.transport.TransportType.{TransportType}
use Rattle.turn_desk_event.specs.TurnTypesFrame.ChannelFrames.{frame_at}
use Rattle.turn_desk_event.specs.TurnTypesFrame.StreamAnswers.{joined}
use Rattle.turn_desk_event.specs.TurnTypesFrame.Streams.{Stream}
use Rattle.turn_desk_step_laws.specs.TurnClientProtoAllocation.declared.connection.Connection.{Connection as Joined}
use Rattle.turn_desk_event.specs.TurnClientProtoApi.Payloads.{PeerPayload}
use Rattle.turn_desk_event.specs.TurnClientProtoApi.declared.answer.TurnRecvRet.{TurnRecvRet}
use Rattle.turn_desk_event.specs.TurnClientProtoApi.declared.answer.TurnRecvRet.TheVariants as recv
use Rattle.turn_client_proto_step_laws.specs.Recv.Control.{Control, Datagrams, Open, Closed}
use Rattle.turn_client_proto_step_laws.specs.Recv.HandingIn.{IsFrameTaken}
use Rattle.turn_client_proto_step_laws.specs.Recv.ClientState.{ClientState, Protocol}
use Rattle.turn_client_proto_step_laws.specs.Recv.Receipts.{has_failed}
use Rattle.turn_client_proto_step_laws.specs.Recv.declared.handing.Taken.{Taken}
use Rattle.turn_client_proto_step_laws.specs.Recv.Waiting.{bytes_waiting, completed, frames_waiting, whole_frames}
use Rattle.turn_desk_step_laws.specs.TurnRuns.Messages.{Held, Allocation, Permission, Channel, Connection, Notice, Payload, FromPeer, Reported, FromChannel}
use Rattle.turn_desk_step_laws.specs.TurnRuns.Runs.{Step, AtDesk}
use Rattle.turn_desk_step_laws.specs.TurnRuns.Chains.{steps_of}
use Rattle.turn_client_proto_step_laws.specs.Recv.SocketChunks.{raw_waiting}
use Rattle.turn_desk_step_laws.specs.TurnRuns.Steps.{Call}
use Rattle.turn_desk_event.specs.TurnClientProtoApi.Sent.{sent_of}
use Rattle.turn_client_proto_step_laws.specs.ClientWords.{notice_of}
use Rattle.turn_client_proto_step_laws.specs.RunClient.{Client}
use Rattle.turn_client_proto_step_laws.specs.Sound.{IsWhole}
use Rattle.turn_desk_core.specs.TurnTypesAttributes.TurnRegistry.{xor_peer_address_kind}
use Rattle.turn_desk_core.specs.declared.decision.Decision.{Decision}
use Rattle.turn_desk_core.specs.declared.decision.Decision.TheVariants as by
use Rattle.turn_desk_event.specs.declared.answer.Answer.{Answer}
use Rattle.turn_desk_event.specs.declared.answer.Answer.TheVariants as answer
use Rattle.turn_desk_event.specs.declared.answer.Answer.TheVariants.{Nothing}
use Rattle.turn_desk_event.specs.declared.event.ClientCall.TheVariants as call
use Rattle.turn_desk_event.specs.declared.event.Event.{Event}
use Rattle.turn_desk_event.specs.declared.event.Event.TheVariants as event
use Rattle.turn_desk_core.specs.RequestedFor.{peer_in}
use Rattle.turn_desk_step_laws.specs.DeskRun.{AreReported, DeskCall}
use Rattle.turn_desk_world.specs.Desks.{words_of}
use Rattle.turn_desk_world.specs.Model.{World}
use Rattle.turn_desk_world.specs.Runs.{IsStep, is_in_range}
use Rattle.turn_desk_world_laws.specs.SocketCalls.{AreCallsOfWaiting, AreCallsOver, IsQuiet, socket_at}

-- ---- what a result reports

-- The bytes that the client transmits when it is polled for something to transmit. What carries a payload to
-- a peer does not count as transmitted: it is written for the user, and may be any bytes.
abbrev pub bytes_transmitted : Event → Answer → Option (List ℕ)
bytes_transmitted (event.Draw now) (answer.Transmit transmit) = Some (sent_of transmit).bytes
bytes_transmitted _ _ = None

-- The server core's reply.
abbrev pub reply_in : Answer → Option (List ℕ)
reply_in (answer.Reply reply) = Some reply.items
reply_in _ = None

-- What the client reports as created.
abbrev pub notices_in : Answer → List Notice
notices_in (answer.Event reported) = filter_map notice_of (reported ∷ [])
notices_in _ = []

-- What the received bytes give from a peer: in a message, which is an indication, or in a channel frame.
abbrev pub data_of : Bool → List ℕ → PeerPayload → Payload
data_of true bytes given = FromPeer given.transport given.peer given.payload
data_of false bytes given = FromChannel (frame_at bytes).id given.peer given.payload

-- What the client delivers of received bytes.
abbrev pub given_of : List ℕ → Answer → List Payload
given_of bytes (answer.Peer given) = data_of (is_none (refusal bytes)) bytes given ∷ []
given_of bytes (answer.Icmp transport peer kind code details) =
    Reported transport peer (record { icmp_type = kind; code = code; details = details }) ∷ []
given_of bytes _ = []

-- The same, by what `recv` returns.
abbrev pub given_by : {T : Type 0} → List ℕ → TurnRecvRet T → List Payload
given_by bytes (recv.PeerData given) = data_of (is_none (refusal bytes)) bytes given ∷ []
given_by bytes (recv.PeerIcmp transport peer kind code details) =
    Reported transport peer (record { icmp_type = kind; code = code; details = details }) ∷ []
given_by bytes _ = []

-- What is delivered by a datagram that arrives over UDP, by the result.
abbrev pub payloads_in : Event → Answer → List Payload
payloads_in (event.ToClient bytes from to now) answer = given_of bytes.items answer
payloads_in _ answer = []

-- The permissions that a call lists, over the transport that it names.
abbrev pub permissions_listed : Event → List IpAddr → List Held
permissions_listed (event.Call (call.Permissions transport relayed) now) ips = map (λ ip. Permission transport ip) ips
permissions_listed _ ips = []

-- The permission about which a call asks, if it is active.
abbrev pub permission_had : Event → Bool → List Held
permission_had (event.Call (call.HavePermission transport ip) now) true = Permission transport ip ∷ []
permission_had _ _ = []

-- The connections that are listed as bound.
abbrev pub connections_bound : List (SocketAddr × SocketAddr × ℕ × Bool) → List Held
connections_bound rows = map (λ r. Connection r.0 r.1 r.2) (filter (λ r. r.3) rows)

-- What the client lists as held, if the event is a getter.
abbrev pub listed_in : Event → Answer → List Held
listed_in happening (answer.Relayed list) = map (λ (p : TransportType × SocketAddr). Allocation p.0 p.1) list.items
listed_in happening (answer.Permissions list) = permissions_listed happening list.items
listed_in happening (answer.Have is) = permission_had happening is
listed_in happening (answer.Channels list) = map (λ (p : ℕ × SocketAddr). Channel p.0 p.1) list.items
listed_in happening (answer.Connections list) = connections_bound list.items
listed_in happening _ = []

-- ---- a client

-- A client with this state is described by `c` in a run: `c` has its core, and the complete frames that are
-- buffered in its stream. All that is buffered are bytes.
pub record IsStoredAs (c : Client) (k : ClientState) : Type 0 where
  pub core : k.core ≡ c.core
  pub waits : frames_waiting k.control ≡ c.waiting
  pub are_bytes : AreBytes (bytes_waiting k.control)

-- The same for the client of a simulation, which must have one.
abbrev pub IsAt : Option ClientState → Client → Type 0
IsAt None c = ⊥
IsAt (Some k) c = IsStoredAs c k

-- ---- one call

-- The bytes that arrive over UDP.
abbrev pub arriving : Event → List (List ℕ)
arriving (event.ToClient bytes from to now) = bytes.items ∷ []
arriving _ = []

-- A call of the client in which exactly those bytes arrive and are handled, and no buffered frame is. It
-- transmits, reports, delivers and lists what the result says.
pub record IsCallOf (happening : Event) (answer : Answer) (call : Call Client) : Type 0 where
  pub came_is : call.came ≡ arriving happening
  pub handled_is : call.handled ≡ arriving happening
  pub transmitted_is : call.transmitted ≡ bytes_transmitted happening answer
  pub answered_is : call.answered ≡ notices_in answer
  pub payloads_are : call.payloads ≡ payloads_in happening answer
  pub visible_is : call.visible ≡ listed_in happening answer

-- One such call leads the client from `first` to `last`.
abbrev pub IsOneCall : Event → Answer → Client → List (Call Client) → Client → Type 0
IsOneCall happening answer first calls last =
    (call : Call Client) × (calls ≡ call ∷ []) × (call.before ≡ first) × (last ≡ call.after) × IsCallOf happening answer call

-- ---- calls over TCP: frames come whole and wait, and are taken up one by one

-- The result delivers nothing from a peer.
abbrev pub HandsNothing : Answer → Type 0
HandsNothing answer = (bytes : List ℕ) → given_of bytes answer ≡ []

-- The frames `came` arrived, and none was handled. Afterwards the frames `waiting` are buffered.
pub record AreComing (came waiting : List (List ℕ)) (call : Call Client) : Type 0 where
  pub quiet : IsQuiet call
  pub came_is : call.came ≡ came
  pub handled_is : call.handled ≡ []
  pub payloads_are : call.payloads ≡ []
  pub core_is : call.after.core ≡ call.before.core
  pub waits : call.after.waiting ≡ waiting

-- The oldest buffered frame was handled at `now`, by the contract of the client, and delivered what is in the
-- result.
pub record IsTakenUp (now : ℕ) (answer : Answer) (call : Call Client) : Type 0 where
  pub quiet : IsQuiet call
  pub came_is : call.came ≡ []
  pub frame : List ℕ
  pub handled_is : call.handled ≡ frame ∷ []
  pub waited : call.before.waiting ≡ frame ∷ call.after.waiting
  pub taken : Taken
  pub is_taken : IsFrameTaken call.before.core frame now taken call.after.core
  pub payloads_are : call.payloads ≡ given_of frame answer

-- The oldest frames were handled one after another, each in a call of its own; the newest call is the first
-- in the list. The last frame delivers what is in the result, and those before it deliver nothing.
abbrev pub AreTakenUp : ℕ → Answer → Client → List (Call Client) → Client → Type 0
AreTakenUp now answer first [] last = (last ≡ first) × HandsNothing answer
AreTakenUp now answer first (call ∷ earlier) last =
    (last ≡ call.after) × IsTakenUp now answer call × AreTakenUp now Nothing first earlier call.before

-- The bytes are a chunk of the client's stream: they come from its server, at a time that is in range, and
-- the client has not failed.
pub record IsChunkOf (p : Protocol) (from to : SocketAddr) (now : ℕ) : Type 0 where
  pub from_is : from ≡ p.server
  pub to_is : to ≡ p.agent.here
  pub works : has_failed p ≡ false
  pub in_range : is_in_range now ≡ true

-- The bytes are a chunk of the stream, and the stream is open.
pub record IsStreams (k : ClientState) (from to : SocketAddr) (now : ℕ) : Type 0 where
  pub stream : Stream
  pub opens : k.control ≡ Open stream
  pub chunk : IsChunkOf k.core from to now

-- The time is out of range, or the bytes came on the socket of no connection.
abbrev pub IsNoSocket : Protocol → (from to : SocketAddr) → ℕ → Type 0
IsNoSocket p from to now = (is_in_range now ≡ false) ⊎ (socket_at p from to ≡ None)

-- Whether the client is over TCP.
abbrev pub is_over_tcp : Control → Bool
is_over_tcp Datagrams = false
is_over_tcp (Open stream) = true
is_over_tcp Closed = true

-- Which frames the received bytes complete, and which are buffered afterwards. A chunk of no bytes ends the
-- stream. Bytes that are no chunk of the stream complete nothing.
pub data AreBrought (k : ClientState) (bytes : List ℕ) (from to : SocketAddr) (now : ℕ) (came waiting : List (List ℕ))
    : Type 0 where
  ByChunk : (stream : Stream) → k.control ≡ Open stream → IsChunkOf k.core from to now → bytes ≢ []
      → came ≡ completed stream bytes → waiting ≡ whole_frames (joined stream bytes)
      → AreBrought k bytes from to now came waiting
  ByEnd : (stream : Stream) → k.control ≡ Open stream → IsChunkOf k.core from to now → bytes ≡ []
      → came ≡ [] → waiting ≡ [] → AreBrought k bytes from to now came waiting
  ByOthers : (stream : Stream) → k.control ≡ Open stream → ¬ IsChunkOf k.core from to now
      → came ≡ [] → waiting ≡ whole_frames stream → AreBrought k bytes from to now came waiting
  ByNone : k.control ≡ Closed → came ≡ [] → waiting ≡ [] → AreBrought k bytes from to now came waiting

-- Bytes came over TCP: one call in which the frames arrive that they complete, and then one for each frame
-- that is handled.
pub record AreCallsOfChunk (k : ClientState) (bytes : List ℕ) (from to : SocketAddr) (now : ℕ) (answer : Answer)
    (first : Client) (calls : List (Call Client)) (last : Client) : Type 0 where
  pub came : List (List ℕ)
  pub waiting : List (List ℕ)
  pub brought : AreBrought k bytes from to now came waiting
  pub coming : Call Client
  pub begins : coming.before ≡ first
  pub comes : AreComing came waiting coming
  pub taking : List (Call Client)
  pub taken : AreTakenUp now answer coming.after taking last
  pub calls_are : calls ≡ taking ++ coming ∷ []

-- Bytes came over TCP. They are a chunk of the client's own connection to the server; or came on the socket
-- of a connection to a peer; or are neither, and complete nothing.
pub data AreCallsOverTcp (k : ClientState) (bytes : List ℕ) (from to : SocketAddr) (now : ℕ) (answer : Answer)
    (first : Client) (calls : List (Call Client)) (last : Client) : Type 0 where
  OfStream : IsStreams k from to now → AreCallsOfChunk k bytes from to now answer first calls last
      → AreCallsOverTcp k bytes from to now answer first calls last
  OverSocket : ¬ IsStreams k from to now → is_in_range now ≡ true → (c : Joined) → socket_at k.core from to ≡ Some c
      → AreCallsOver c to now bytes answer k.core first calls last
      → AreCallsOverTcp k bytes from to now answer first calls last
  OverNone : ¬ IsStreams k from to now → IsNoSocket k.core from to now
      → AreCallsOfChunk k bytes from to now answer first calls last
      → AreCallsOverTcp k bytes from to now answer first calls last

-- The calls of received bytes, by how bytes come from the server.
abbrev pub AreCallsOfBytes : Control → ClientState → Vec ℕ Global → (from to : SocketAddr) → ℕ → Answer → Client
    → List (Call Client) → Client → Type 0
AreCallsOfBytes Datagrams k bytes from to now answer first calls last =
    IsOneCall (event.ToClient bytes from to now) answer first calls last
AreCallsOfBytes (Open stream) k bytes from to now answer first calls last =
    AreCallsOverTcp k bytes.items from to now answer first calls last
AreCallsOfBytes Closed k bytes from to now answer first calls last =
    AreCallsOverTcp k bytes.items from to now answer first calls last

-- The client was polled for what is buffered. The first buffered bytes of a connection's peer are delivered;
-- or, if there are none, frames are handled.
abbrev pub AreCallsOfAsking : Option Joined → ℕ → ClientState → Answer → Client → List (Call Client) → Client → Type 0
AreCallsOfAsking (Some c) now k answer first calls last = AreCallsOfWaiting c answer k.core first calls last
AreCallsOfAsking None now k answer first calls last = AreTakenUp now answer first calls last

-- The first bound connection with buffered bytes, if the time is in range and the client is over TCP.
abbrev pub raw_requested : ℕ → ClientState → Option Joined
raw_requested now k = if is_in_range now && is_over_tcp k.control then raw_waiting k.core else None

-- The calls that an event makes on a client with this state, the newest first. They lead it from `first` to
-- `last`.
abbrev pub AreCallsBy : Event → ClientState → Answer → Client → List (Call Client) → Client → Type 0
AreCallsBy (event.Call call.PollRecv now) k answer first calls last =
    AreCallsOfAsking (raw_requested now k) now k answer first calls last
AreCallsBy (event.ToClient bytes from to now) k answer first calls last =
    AreCallsOfBytes k.control k bytes from to now answer first calls last
AreCallsBy happening k answer first calls last = IsOneCall happening answer first calls last

-- ---- steps

-- The steps of a run are those calls.
pub record AreStepsOfClient (happening : Event) (answer : Answer) (old new : Option ClientState)
    (steps : List (Step Client DeskCall)) : Type 0 where
  pub stored : ClientState
  pub stored_is : old ≡ Some stored
  pub first : Client
  pub before : IsStoredAs first stored
  pub calls : List (Call Client)
  pub steps_are : steps ≡ steps_of calls
  pub last : Client
  pub after : IsAt new last
  pub are : AreCallsBy happening stored answer first calls last

-- What reached the server core, and what it made of it.
abbrev pub desk_call : World → List ℕ → SocketAddr → ℕ → Decision → List ℕ → Answer → World → DeskCall
desk_call old bytes from now decision seed answer new = record {
  before = old.desk;
  source = from;
  bytes = bytes;
  now = now;
  stream = words_of seed;
  decision = decision;
  reply = reply_in answer;
  after = new.desk;
}

-- The steps of a run, the newest first, are this event with its result.
abbrev pub AreStepsBy : Event → Answer → World → List (Step Client DeskCall) → World → Type 0
AreStepsBy (event.ToDesk bytes from now decision seed) answer old steps new =
    steps ≡ AtDesk (desk_call old bytes.items from now decision seed answer new) ∷ []
AreStepsBy happening answer old steps new = AreStepsOfClient happening answer old.client new.client steps

-- ---- a run

-- The steps of `run` are those of the events with their results, between states through which the events lead
-- by their contracts. The first event's steps are the last in the list.
unfoldable pub IsReportedBy : World → List (Event × Answer) → List (Step Client DeskCall) → World → Type 0
IsReportedBy old [] run new = (run ≡ []) × (new ≡ old)
IsReportedBy old (pair ∷ pairs) run new =
    (next : World) × (steps later : List (Step Client DeskCall))
    × (run ≡ later ++ steps) × IsStep pair.0 old pair.1 next × AreStepsBy pair.0 pair.1 old steps next
    × IsReportedBy next pairs later new

-- ---- what is taken for granted of events

-- A response with this transaction ID carries the relayed addresses that the driver decides unchanged: they
-- have no flow information and no scope.
abbrev pub AreReportedWhole : ℕ → Decision → Type 0
AreReportedWhole transaction_id (by.Allocate relayed lifetime) = AreReported transaction_id relayed
AreReportedWhole transaction_id _ = Unit {0}

-- The XOR-PEER-ADDRESS attribute for an address, in a message with this transaction ID.
abbrev pub peer_attribute : ℕ → SocketAddr → Attr
peer_attribute transaction_id peer = record { kind = xor_peer_address_kind; value = xored transaction_id (address_value peer) }

-- The server core decodes the peer unchanged from a request with this transaction ID that names it.
abbrev pub IsReadBack : ℕ → SocketAddr → Type 0
IsReadBack transaction_id peer = peer_in transaction_id (peer_attribute transaction_id peer) ≡ Some peer

-- What is presumed of an event: the decided relayed addresses have no flow information and no scope, and nor
-- has a peer to which a channel is to be bound or a connection opened. The client stores such a peer as its
-- caller gave it, but the server core grants the one that it decodes from the request, which carries neither
-- (RFC 8656, sections 18.3 and 18.5).
abbrev pub IsFairEvent : Event → Type 0
IsFairEvent (event.ToDesk bytes from now decision seed) = AreReportedWhole (number_at bytes.items) decision
IsFairEvent (event.Call (call.BindChannel transport peer) now) = IsWhole peer
IsFairEvent (event.Call (call.TcpConnect peer) now) = IsWhole peer
IsFairEvent _ = Unit {0}

abbrev pub IsFair : Event × Answer → Type 0
IsFair pair = IsFairEvent pair.0
