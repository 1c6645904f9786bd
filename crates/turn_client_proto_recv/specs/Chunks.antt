-- Handling of the TCP stream from the server (RFC 8656, section 12.5).
use Rattle.std.specs.Prelude.{◌≡◌, ◌≢◌, ◌⊎◌, ⊤, ℕ, Bool, true, false, List, [], Option, Some, None, if◌then◌else◌}
use Rattle.std.specs.declared.net.socket_addr.SocketAddr.{SocketAddr}
use Rattle.stun_types_wire.specs.Grammar.{refusal}
use Rattle.stun_types_base.specs.declared.transmit.Transmit.{Transmit}
use Rattle.stun_types_base.specs.declared.transport.TransportType.{TransportType}
use Rattle.turn_types_frame.specs.StreamAnswers.{IsNone, after_look, joined, looked}
use Rattle.turn_types_frame.specs.Streams.{Stream}
use Rattle.turn_client_proto_api.specs.Payloads.{PeerPayload, part_of}
use Rattle.turn_client_proto_api.specs.declared.answer.TurnRecvRet.{TurnRecvRet}
use Rattle.turn_client_proto_api.specs.declared.answer.TurnRecvRet.TheVariants as recv
use Rattle.turn_client_proto_core.specs.Ending.{HasFailed}
use Rattle.turn_client_proto_core.specs.Receiving.{MayGrow}
use Rattle.turn_client_proto_core.specs.declared.protocol.Protocol.{Protocol}
use Rattle.turn_client_proto_payload.specs.Payloads.{payload_of}
use Rattle.turn_client_proto_payload.specs.declared.payload.Payload.{Payload}
use Rattle.turn_client_proto_payload.specs.declared.payload.Payload.TheVariants.{Data, Framed, Report}
use Rattle.turn_client_proto_recv.specs.HandingIn.{IsFrameTaken, taken_as}
use Rattle.turn_client_proto_recv.specs.Pulls.{IsPulled, frame_of}
use Rattle.turn_client_proto_recv.specs.Datagrams.{IsHandledAs}
use Rattle.turn_client_proto_recv.specs.declared.handing.Taken.{Taken}
use Rattle.turn_client_proto_recv.specs.declared.handing.Taken.TheVariants.{Given, Handled, Ignored, Garbled}

-- ---- one frame

-- The bytes of a frame from `start` to `end` as a payload from a peer, in a vector of their own.
abbrev pub apart : List ℕ → TransportType → SocketAddr → (start end : ℕ) → PeerPayload
apart frame transport peer start end =
    record { payload = part_of frame start end; index = None; transport = transport; peer = peer }

-- The data from a peer that a frame carries. A report is no data.
abbrev pub data_given : List ℕ → Payload → Option PeerPayload
data_given frame (Data transport peer start end) = Some (apart frame transport peer start end)
data_given frame (Report transport peer report) = None
data_given frame (Framed number transport peer start end) = Some (apart frame transport peer start end)

-- The data from a peer, by the result of handling the frame.
abbrev pub data_taken : List ℕ → Taken → Option PeerPayload
data_taken frame (Given payload) = data_given frame payload
data_taken frame Handled = None
data_taken frame Ignored = None
data_taken frame Garbled = None

-- A frame was handled, and delivered this data.
pub record IsFrameHandled (now : ℕ) (old : Protocol) (frame : List ℕ) (given : Option PeerPayload) (new : Protocol)
    : Type 0 where
  pub taken : Taken
  pub is_taken : IsFrameTaken old frame now taken new
  pub gives : given ≡ data_taken frame taken

-- ---- when an allocation of memory may fail

-- The payload is data.
abbrev pub GivesData : Payload → Type 0
GivesData (Data transport peer start end) = ⊤
GivesData (Report transport peer report) = ⊥
GivesData (Framed number transport peer start end) = ⊤

-- The frame is a message that delivers nothing, and handling it may need memory.
pub record GrowsBy (old : Protocol) (frame : List ℕ) : Type 0 where
  pub gives : payload_of old frame ≡ None
  pub message : refusal frame ≡ None
  pub grows : MayGrow old frame

-- Handling the frame may need memory, or its data needs a vector of its own.
abbrev pub Needs : Protocol → List ℕ → Type 0
Needs old frame = GrowsBy old frame ⊎ ((payload : Payload) × (payload_of old frame ≡ Some payload) × GivesData payload)

-- A memory allocation failed for the frame at the head of a stream, or for a later one after those before it
-- delivered nothing.
pub data IsLostOn (now : ℕ) : Stream → Protocol → Protocol → Type 0 where
  Here : (stream : Stream) (old new : Protocol) → ¬ IsNone (looked stream) → Needs old (frame_of stream)
      → HasFailed old new → IsLostOn now stream old new
  Later : (stream : Stream) (old middle new : Protocol) → ¬ IsNone (looked stream)
      → IsFrameHandled now old (frame_of stream) None middle → IsLostOn now (after_look stream) middle new
      → IsLostOn now stream old new

-- The frame at the head of the stream was handled, if it was complete.
abbrev pub IsTakenOff : ℕ → Stream → Protocol → Option (Option PeerPayload) → Stream → Protocol → Type 0
IsTakenOff now stream old None left new = IsNone (looked stream) × (left ≡ after_look stream) × (new ≡ old)
IsTakenOff now stream old (Some given) left new =
    (¬ IsNone (looked stream)) × IsFrameHandled now old (frame_of stream) given new × (left ≡ after_look stream)

-- ---- the result for a chunk

-- The payload of a frame, by its position in the chunk or in a vector of its own.
abbrev pub placed : Option (ℕ × ℕ) → PeerPayload → PeerPayload
placed index given = record given { index = index }

abbrev pub index_if : Bool → (start end : ℕ) → Option (ℕ × ℕ)
index_if owned start end = if owned then None else Some (start, end)

abbrev pub IsDeliveredAs : {T : Type 0} → Bool → List ℕ → Payload → TurnRecvRet T → Type 0
IsDeliveredAs owned frame (Data transport peer start end) answer =
    answer ≡ recv.PeerData (placed (index_if owned start end) (apart frame transport peer start end))
IsDeliveredAs owned frame (Report transport peer report) answer =
    answer ≡ recv.PeerIcmp transport peer report.icmp_type report.code report.details
IsDeliveredAs owned frame (Framed number transport peer start end) answer =
    answer ≡ recv.PeerData (placed (index_if owned start end) (apart frame transport peer start end))

module _ {T : Type 0} where
  -- A frame's payload that doesn't lie in the chunk is delivered in a vector of its own; or the allocation of
  -- that vector failed, and the client has failed.
  pub data IsPayloadAnswered (frame : List ℕ) (payload : Payload) (came : Transmit T) (old : Protocol)
      (answer : TurnRecvRet T) (new : Protocol) : Type 0 where
    ReportedApart : IsDeliveredAs true frame payload answer → new ≡ old
        → IsPayloadAnswered frame payload came old answer new
    Refused : GivesData payload → answer ≡ recv.NoMemory came → HasFailed old new
        → IsPayloadAnswered frame payload came old answer new

  -- The result after the first frame delivered nothing: what another frame delivers, else whether the first
  -- frame was for the client.
  abbrev pub IsAnsweredAfter : Bool → Option PeerPayload → Transmit T → TurnRecvRet T → Type 0
  IsAnsweredAfter handled (Some given) came answer = answer ≡ recv.PeerData given
  IsAnsweredAfter handled None came answer = IsHandledAs came handled answer

  pub data IsAfter (now : ℕ) (handled : Bool) (stream : Stream) (old : Protocol) (came : Transmit T)
      (answer : TurnRecvRet T) (left : Stream) (new : Protocol) : Type 0 where
    Pulled : (given : Option PeerPayload) → IsPulled (IsFrameHandled now) stream old given left new
        → IsAnsweredAfter handled given came answer
        → IsAfter now handled stream old came answer left new
    LostAfter : answer ≡ recv.NoMemory came → IsLostOn now stream old new
        → IsAfter now handled stream old came answer left new

-- ---- a chunk

-- Whether the frame that a chunk completes began in an earlier chunk.
abbrev pub HasStarted : Stream → Bool → Type 0
HasStarted stream true = stream.stored ≢ []
HasStarted stream false = stream.stored ≡ []

-- The first complete frame was handled, and what it delivers is returned, or else what another frame
-- delivers.
pub data IsFirstTaken {T : Type 0} (now : ℕ) (owned : Bool) (frame : List ℕ) (stream : Stream) (old : Protocol)
    (came : Transmit T) (answer : TurnRecvRet T) (left : Stream) (new : Protocol) : Type 0 where
  First : (payload : Payload) → payload_of old frame ≡ Some payload → IsDeliveredAs owned frame payload answer
      → left ≡ stream → new ≡ old → IsFirstTaken now owned frame stream old came answer left new
  -- The bytes are neither a message nor a channel frame, and no other frame is handled.
  Invalid : IsFrameTaken old frame now Garbled new → answer ≡ recv.Handled → left ≡ stream
      → IsFirstTaken now owned frame stream old came answer left new
  Following : (handled : Bool) (middle : Protocol) → IsFrameTaken old frame now (taken_as handled) middle
      → (given : Option PeerPayload) → IsPulled (IsFrameHandled now) stream middle given left new
      → IsAnsweredAfter handled given came answer → IsFirstTaken now owned frame stream old came answer left new

-- A memory allocation failed for the first frame, or for a later one.
pub data IsFirstLost (now : ℕ) (owned : Bool) (frame : List ℕ) (stream : Stream) (old new : Protocol) : Type 0 where
  Grew : GrowsBy old frame → HasFailed old new → IsFirstLost now owned frame stream old new
  OfItsOwn : owned ≡ true → (payload : Payload) → payload_of old frame ≡ Some payload → GivesData payload
      → HasFailed old new → IsFirstLost now owned frame stream old new
  LostLater : (handled : Bool) (middle : Protocol) → IsFrameTaken old frame now (taken_as handled) middle
      → IsLostOn now stream middle new → IsFirstLost now owned frame stream old new

pub data IsFirstAnswered {T : Type 0} (now : ℕ) (owned : Bool) (frame : List ℕ) (stream : Stream) (old : Protocol)
    (came : Transmit T) (answer : TurnRecvRet T) (left : Stream) (new : Protocol) : Type 0 where
  FirstTaken : IsFirstTaken now owned frame stream old came answer left new
      → IsFirstAnswered now owned frame stream old came answer left new
  FirstLost : answer ≡ recv.NoMemory came → IsFirstLost now owned frame stream old new
      → IsFirstAnswered now owned frame stream old came answer left new

-- A memory allocation failed: for bytes that are to be buffered, or for a frame.
pub data IsChunkLost (now : ℕ) (stream : Stream) (bytes : List ℕ) (old new : Protocol) : Type 0 where
  Unkept : (stream.stored ≡ [] → (after_look (joined stream bytes)).stored ≢ []) → HasFailed old new
      → IsChunkLost now stream bytes old new
  AtFrame : ¬ IsNone (looked (joined stream bytes)) → (owned : Bool) → HasStarted stream owned
      → IsFirstLost now owned (frame_of (joined stream bytes)) (after_look (joined stream bytes)) old new
      → IsChunkLost now stream bytes old new

-- The outcome of a chunk of the stream.
pub data IsChunkTaken {T : Type 0} (items : T → List ℕ) (now : ℕ) (stream : Stream) (old : Protocol)
    (came : Transmit T) (answer : TurnRecvRet T) (left : Stream) (new : Protocol) : Type 0 where
  -- No frame is complete yet.
  Waits : IsNone (looked (joined stream (items came.bytes))) → answer ≡ recv.Handled
      → left ≡ after_look (joined stream (items came.bytes)) → new ≡ old
      → IsChunkTaken items now stream old came answer left new
  Takes : ¬ IsNone (looked (joined stream (items came.bytes))) → (owned : Bool) → HasStarted stream owned
      → IsFirstTaken now owned (frame_of (joined stream (items came.bytes)))
      (after_look (joined stream (items came.bytes))) old came answer left new
      → IsChunkTaken items now stream old came answer left new
  Lost : answer ≡ recv.NoMemory came → IsChunkLost now stream (items came.bytes) old new
      → IsChunkTaken items now stream old came answer left new
