-- Handling of what is received on the socket of a connection to a peer (RFC 6062, sections 4.3 and 4.5).
use Rattle.std.specs.Prelude.{◌≡◌, ◌≢◌, ℕ, ◌==◌, Bool, true, false, is_some, ◌&&◌, List, [], ◌++◌, length, Option, Some, None, MatchOption, if◌then◌else◌}
use Rattle.std.specs.Bool.{MatchBool}
use Rattle.std.specs.declared.net.socket_addr.SocketAddr.{SocketAddr}
use Rattle.stun_types_wire.specs.Grammar.{refusal}
use Rattle.stun_types_wire.specs.Headers.{AreBytes}
use Rattle.stun_types_base.specs.declared.transmit.Transmit.{Transmit}
use Rattle.stun_types_base.specs.declared.transport.TransportType.TheVariants.{Tcp}
use Rattle.turn_types_frame.specs.StreamAnswers.{IsNone, after_look, joined, looked}
use Rattle.turn_types_frame.specs.Streams.{Stream, alive}
use Rattle.turn_types_frame.specs.declared.head.FrameHead.{FrameHead}
use Rattle.turn_types_frame.specs.declared.head.FrameHead.TheVariants.{Message, Channel, Incomplete, Invalid}
use Rattle.turn_client_proto_allocation.specs.declared.connection.Binding.{Binding}
use Rattle.turn_client_proto_allocation.specs.declared.connection.Connection.{Connection}
use Rattle.turn_client_proto_api.specs.Payloads.{PeerPayload}
use Rattle.turn_client_proto_api.specs.declared.answer.TurnRecvRet.{TurnRecvRet}
use Rattle.turn_client_proto_api.specs.declared.answer.TurnRecvRet.TheVariants as recv
use Rattle.turn_client_proto_recv.specs.Closing.{after_close}
use Rattle.turn_client_proto_connection.specs.Streams.{emptied, exchanged, first_raw, from}
use Rattle.turn_client_proto_core.specs.Ending.{HasFailed}
use Rattle.turn_client_proto_core.specs.Receiving.{IsProcessed, MayGrow}
use Rattle.turn_client_proto_core.specs.declared.protocol.Protocol.{Protocol}
use Rattle.turn_client_proto_recv.specs.Processing.{IsProcessedAt, awaited_at, may_bind}
use Rattle.turn_client_proto_allocation.specs.Same.{is_same_address, is_same_transport}
use Rattle.turn_client_proto_recv.specs.Datagrams.{IsGivenBack, IsHandledAs}
use Rattle.turn_client_proto_recv.specs.Pulls.{frame_of}

-- ---- until the connection is bound

-- The connection with this local address is still to be bound.
abbrev pub is_joining : SocketAddr → Protocol → Bool
is_joining here p = is_some (awaited_at here p.allocations)

-- The outcome of a message on the socket of that connection. A socket with the client's own address is
-- handled as that of the control connection.
abbrev pub IsMessageProcessed : SocketAddr → ℕ → Protocol → List ℕ → Protocol → Type 0
IsMessageProcessed here now old frame new = MatchBool (is_same_address here old.agent.here)
    ((handled : Bool) × IsProcessed old frame now handled new)
    (IsProcessedAt here old frame now new)

-- The outcome of a frame on that socket. The frame consists of bytes. A frame that is no message has no
-- effect.
abbrev pub IsFrameProcessed : SocketAddr → ℕ → Protocol → List ℕ → Protocol → Type 0
IsFrameProcessed here now old frame new = AreBytes frame × MatchOption (refusal frame)
    (IsMessageProcessed here now old frame new)
    (λ error. new ≡ old)

-- Frames are handled one after another while the connection is still to be bound and a frame is complete.
-- What follows the frame that binds it is no frame.
pub data IsFed (here : SocketAddr) (now : ℕ) : Stream → Protocol → Stream → Protocol → Type 0 where
  Stops : (stream : Stream) (state : Protocol) → is_joining here state ≡ false
      → IsFed here now stream state stream state
  Waits : (stream : Stream) (state : Protocol) → is_joining here state ≡ true → IsNone (looked stream)
      → IsFed here now stream state (after_look stream) state
  Processes : (stream : Stream) (state middle : Protocol) (left : Stream) (after : Protocol)
      → is_joining here state ≡ true → ¬ IsNone (looked stream)
      → IsFrameProcessed here now state (frame_of stream) middle → IsFed here now (after_look stream) middle left after
      → IsFed here now stream state left after

-- The next frame is handled. Or none is, because the connection is not to be bound or no frame is complete.
abbrev pub IsNextTaken : SocketAddr → ℕ → Stream → Protocol → Bool → Stream → Protocol → Type 0
IsNextTaken here now stream state true left after =
    (is_joining here state ≡ true) × (¬ IsNone (looked stream)) × IsFrameProcessed here now state (frame_of stream) after
    × (left ≡ after_look stream)
IsNextTaken here now stream state false left after = MatchBool (is_joining here state)
    (IsNone (looked stream) × (left ≡ after_look stream) × (after ≡ state))
    ((left ≡ stream) × (after ≡ state))

-- Handling the message may need memory.
abbrev pub MayGrowBy : SocketAddr → Protocol → List ℕ → Type 0
MayGrowBy here p message =
    MatchBool (is_same_address here p.agent.here) (MayGrow p message) (may_bind here p message ≡ true)

-- The frame is a message, and handling it may need memory.
abbrev pub MayGrowAt : SocketAddr → Protocol → List ℕ → Type 0
MayGrowAt here p frame = (refusal frame ≡ None) × MayGrowBy here p frame

-- A memory allocation failed for the frame at the head of a stream, or for a later one.
pub data IsLostAt (here : SocketAddr) (now : ℕ) : Stream → Protocol → Protocol → Type 0 where
  Here : (stream : Stream) (old new : Protocol) → is_joining here old ≡ true → ¬ IsNone (looked stream)
      → MayGrowAt here old (frame_of stream) → HasFailed old new → IsLostAt here now stream old new
  Later : (stream : Stream) (old middle new : Protocol) → is_joining here old ≡ true → ¬ IsNone (looked stream)
      → IsFrameProcessed here now old (frame_of stream) middle → IsLostAt here now (after_look stream) middle new
      → IsLostAt here now stream old new

-- Whether the bytes at the head of the stream are for the client: all but a channel frame are.
abbrev pub is_for_client : FrameHead → Bool
is_for_client (Channel _) = false
is_for_client (Message _) = true
is_for_client Incomplete = true
is_for_client Invalid = true

-- A memory allocation failed: for bytes that are to be buffered, or for a frame.
pub data IsFeedLost (here : SocketAddr) (now : ℕ) (stream : Stream) (bytes : List ℕ) (old new : Protocol) : Type 0 where
  Unkept : (stream.stored ≡ [] → (after_look (joined stream bytes)).stored ≢ []) → HasFailed old new
      → IsFeedLost here now stream bytes old new
  AtFrame : IsLostAt here now (joined stream bytes) old new → IsFeedLost here now stream bytes old new

-- The outcome of a chunk on that socket, after the bytes that were buffered: the complete frames are handled,
-- and the rest is buffered.
pub data IsChunkFed {T : Type 0} (items : T → List ℕ) (here : SocketAddr) (now : ℕ) (stream : Stream) (old : Protocol)
    (came : Transmit T) (answer : TurnRecvRet T) (left : Stream) (new : Protocol) : Type 0 where
  Fed : IsFed here now (joined stream (items came.bytes)) old left new
      → IsHandledAs came (is_for_client (looked (joined stream (items came.bytes)))) answer
      → IsChunkFed items here now stream old came answer left new
  LostFrames : answer ≡ recv.NoMemory came → IsFeedLost here now stream (items came.bytes) old new
      → IsChunkFed items here now stream old came answer left new

-- A frame is handled, and then the complete frames after it.
pub record IsTakenFrom (here : SocketAddr) (now : ℕ) (frame : List ℕ) (stream : Stream) (old : Protocol) (left : Stream)
    (new : Protocol) : Type 0 where
  pub middle : Protocol
  pub processed : IsFrameProcessed here now old frame middle
  pub fed : IsFed here now stream middle left new

-- A memory allocation failed for that frame, or for a later one.
pub data IsLostFrom (here : SocketAddr) (now : ℕ) (frame : List ℕ) (stream : Stream) (old new : Protocol) : Type 0 where
  AtFirst : MayGrowAt here old frame → HasFailed old new → IsLostFrom here now frame stream old new
  AfterFirst : (middle : Protocol) → IsFrameProcessed here now old frame middle → IsLostAt here now stream middle new
      → IsLostFrom here now frame stream old new

-- The result for a chunk with this first frame, by whether the frame is a message.
pub data IsHeadTaken {T : Type 0} (here : SocketAddr) (now : ℕ) (message : Bool) (frame : List ℕ) (stream : Stream)
    (old : Protocol) (came : Transmit T) (answer : TurnRecvRet T) (left : Stream) (new : Protocol) : Type 0 where
  HeadTaken : IsTakenFrom here now frame stream old left new → IsHandledAs came message answer
      → IsHeadTaken here now message frame stream old came answer left new
  HeadLost : answer ≡ recv.NoMemory came → IsLostFrom here now frame stream old new
      → IsHeadTaken here now message frame stream old came answer left new

-- The client whose connection with this local address has this stream.
abbrev pub with_stored : SocketAddr → Stream → Protocol → Protocol
with_stored here stream p = record p { allocations = exchanged here stream p.allocations }

-- The outcome of a chunk for a connection that is still to be bound. While the frames are handled, the
-- connection in the client has an empty stream.
pub record IsTakenFor {T : Type 0} (items : T → List ℕ) (c : Connection) (now : ℕ) (old : Protocol)
    (came : Transmit T) (answer : TurnRecvRet T) (new : Protocol) : Type 0 where
  pub left : Stream
  pub middle : Protocol
  pub fed : IsChunkFed items came.to now c.stream (with_stored came.to (alive []) old) came answer left middle
  pub after : new ≡ with_stored came.to left middle

-- ---- once it is bound

-- The peer's bytes that a bound connection delivers: those that were buffered before those that came.
abbrev pub raw_given : Connection → List ℕ → PeerPayload
raw_given c bytes = record {
  payload = c.stream.stored ++ bytes;
  index = if length c.stream.stored == 0 then Some (0, length bytes) else None;
  transport = Tcp;
  peer = c.peer;
}

-- The client afterwards: no bytes of the connection are buffered any more.
abbrev pub after_raw : SocketAddr → Connection → Protocol → Protocol
after_raw here c p = if length c.stream.stored == 0 then p else with_stored here (alive []) p

-- The outcome of a chunk for a bound connection: its bytes are delivered; or bytes were buffered, and a
-- memory allocation failed.
pub data IsRawTaken {T : Type 0} (items : T → List ℕ) (c : Connection) (old : Protocol) (came : Transmit T)
    (answer : TurnRecvRet T) (new : Protocol) : Type 0 where
  GivesRaw : answer ≡ recv.PeerData (raw_given c (items came.bytes)) → new ≡ after_raw came.to c old
      → IsRawTaken items c old came answer new
  LostRaw : c.stream.stored ≢ [] → answer ≡ recv.NoMemory came → HasFailed old new
      → IsRawTaken items c old came answer new

-- ---- a chunk

-- The outcome of an empty chunk: the socket was closed.
pub data IsEnded {T : Type 0} (old : Protocol) (came : Transmit T) (answer : TurnRecvRet T) (new : Protocol)
    : Type 0 where
  Closes : answer ≡ recv.Handled → new ≡ after_close came.to old.server old → IsEnded old came answer new
  LostEnd : answer ≡ recv.NoMemory came → HasFailed old new → IsEnded old came answer new

-- The outcome of a chunk that isn't empty, by whether the connection is bound.
abbrev pub IsBytesTaken : {T : Type 0} → (T → List ℕ) → Option Binding → Connection → ℕ → Protocol → Transmit T
    → TurnRecvRet T → Protocol → Type 0
IsBytesTaken items (Some binding) c now old came answer new = IsTakenFor items c now old came answer new
IsBytesTaken items None c now old came answer new = IsRawTaken items c old came answer new

abbrev pub IsTakenBy : {T : Type 0} → (T → List ℕ) → Connection → ℕ → Protocol → Transmit T → TurnRecvRet T
    → Protocol → Type 0
IsTakenBy items c now old came answer new = MatchBool (length (items came.bytes) == 0)
    (IsEnded old came answer new)
    (IsBytesTaken items c.awaited c now old came answer new)

-- The connection on whose socket bytes came from the server.
abbrev pub socket_of : {T : Type 0} → Protocol → Transmit T → Option Connection
socket_of p came =
    if is_same_transport came.transport p.agent.transport && is_same_address came.from p.server
    then from came.to p.allocations else None

-- The outcome of bytes that didn't come on the control connection. Bytes that came on no connection's socket
-- are given back.
abbrev pub IsReceivedAt : {T : Type 0} → (T → List ℕ) → ℕ → Protocol → Transmit T → TurnRecvRet T → Protocol → Type 0
IsReceivedAt items now old came answer new = MatchOption (socket_of old came)
    (IsGivenBack old came answer new)
    (λ c. IsTakenBy items c now old came answer new)

-- ---- bytes that wait

-- The first bound connection with buffered bytes, if there is one.
abbrev pub raw_waiting : Protocol → Option Connection
raw_waiting p = first_raw p.allocations

abbrev pub raw_stored : Connection → PeerPayload
raw_stored c = record { payload = c.stream.stored; index = None; transport = Tcp; peer = c.peer }

pub record IsRawGiven (c : Connection) (old : Protocol) (given : Option PeerPayload) (new : Protocol) : Type 0 where
  pub gives : given ≡ Some (raw_stored c)
  pub after : new ≡ record old { allocations = emptied old.allocations }

-- The buffered bytes of that connection are returned; or there are none.
abbrev pub IsWaitingTaken : Protocol → Option PeerPayload → Protocol → Type 0
IsWaitingTaken old given new = MatchOption (raw_waiting old)
    ((given ≡ None) × (new ≡ old))
    (λ c. IsRawGiven c old given new)
