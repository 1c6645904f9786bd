-- Chunks of a stream, one after another, and all that they deliver.
use Rattle.std.specs.Prelude.{◌≡◌, ◌≢◌, ℕ, List, [], ◌∷◌, ◌++◌, map, Some, None}
use Rattle.turn_client_proto_timers.specs.StunTypesBase.declared.transmit.Transmit.{Transmit}
use Rattle.turn_client_proto_recv.specs.TurnTypesFrame.Streams.{alive, fed}
use Rattle.turn_client_proto_timers.specs.Api.Payloads.{PeerPayload}
use Rattle.turn_client_proto_timers.specs.Api.declared.answer.TurnRecvRet.{TurnRecvRet}
use Rattle.turn_client_proto_timers.specs.Api.declared.answer.TurnRecvRet.TheVariants.{Handled, Ignored, NoMemory, PeerData, PeerIcmp}
use Rattle.turn_client_proto_recv.specs.Control.{Open}
use Rattle.turn_client_proto_recv.specs.ClientState.{ClientState}
use Rattle.turn_client_proto_recv.specs.Chunks.{placed}
use Rattle.turn_client_proto_recv.specs.Receipts.{IsOfStream, IsReceived, IsWaitingGiven}
use Rattle.turn_client_proto_recv.specs.SocketChunks.{raw_waiting}

-- The peer data that `recv` returns, as bytes, wherever they are stored. ICMP reports are left out.
abbrev pub data_answered : {T : Type 0} → TurnRecvRet T → List PeerPayload
data_answered (PeerData given) = placed None given ∷ []
data_answered (PeerIcmp transport peer kind code details) = []
data_answered Handled = []
data_answered (Ignored came) = []
data_answered (NoMemory came) = []

-- `poll_recv` was called until it returned nothing.
pub data IsRequestedOut (now : ℕ) : ClientState → List PeerPayload → ClientState → Type 0 where
  NoMore : (old new : ClientState) → IsWaitingGiven old now None new → IsRequestedOut now old [] new
  OneMore : (old between new : ClientState) (given : PeerPayload) (others : List PeerPayload)
      → IsWaitingGiven old now (Some given) between → IsRequestedOut now between others new
      → IsRequestedOut now old (given ∷ others) new

-- A chunk of the client's stream was received at a time, and memory did not run out; then `poll_recv` was
-- called until it returned nothing.
pub record IsChunkDrained {T : Type 0} (items : T → List ℕ) (now : ℕ) (old : ClientState) (came : Transmit T)
    (given : List PeerPayload) (new : ClientState) : Type 0 where
  pub of_stream : IsOfStream old.core came
  pub has_bytes : items came.bytes ≢ []
  pub answer : TurnRecvRet T
  pub ample : answer ≢ NoMemory came
  pub between : ClientState
  pub received : IsReceived items old came now answer between
  pub waiting : List PeerPayload
  pub requested : IsRequestedOut now between waiting new
  pub gives : given ≡ data_answered answer ++ waiting

-- Chunks were received and drained in this way, one after another.
abbrev pub AreDrained : {T : Type 0} → (T → List ℕ) → ℕ → ClientState → List (Transmit T) → List PeerPayload → ClientState → Type 0
AreDrained items now old [] given new = (given ≡ []) × (new ≡ old)
AreDrained items now old (came ∷ others) given new =
    (between : ClientState) × (first later : List PeerPayload) × IsChunkDrained items now old came first between
    × (given ≡ first ++ later) × AreDrained items now between others later new

-- The bytes of each chunk.
abbrev pub chunks_of : {T : Type 0} → (T → List ℕ) → List (Transmit T) → List (List ℕ)
chunks_of items chunks = map (λ came. items came.bytes) chunks

-- A client over TCP that buffers no complete frame of its stream, and no bytes of a connection's peer.
pub record IsDrainedOut (k : ClientState) : Type 0 where
  pub stored : List ℕ
  pub stream : k.control ≡ Open (alive stored)
  pub none : (fed stored).frames ≡ []
  pub left : (fed stored).stream ≡ alive stored
  pub none_raw : raw_waiting k.core ≡ None
