-- Handling of received bytes (RFC 8489, section 6.2.1; RFC 8656, section 12.5).
use Rattle.std.specs.Prelude.{◌≡◌, ◌≢◌, ℕ, Bool, false, is_none, List, [], Option, None, Some}
use Rattle.stun_types_base.specs.declared.transmit.Transmit.{Transmit}
use Rattle.turn_types_frame.specs.Streams.{Stream}
use Rattle.turn_client_proto_allocation.specs.declared.connection.Connection.{Connection}
use Rattle.turn_client_proto_api.specs.Payloads.{PeerPayload}
use Rattle.turn_client_proto_api.specs.declared.answer.TurnRecvRet.{TurnRecvRet}
use Rattle.turn_client_proto_api.specs.declared.answer.TurnRecvRet.TheVariants.{Handled}
use Rattle.turn_client_proto_core.specs.declared.protocol.Protocol.{Protocol}
use Rattle.turn_client_proto_recv.specs.Control.{Control, Datagrams, Open, Closed}
use Rattle.turn_client_proto_recv.specs.Datagrams.{IsDatagramTaken, IsOfServer}
use Rattle.turn_client_proto_recv.specs.ClientState.{ClientState}
use Rattle.turn_client_proto_recv.specs.Chunks.{IsFrameHandled, IsLostOn, IsChunkTaken}
use Rattle.turn_client_proto_recv.specs.Pulls.{IsPulled}
use Rattle.turn_client_proto_recv.specs.SocketChunks.{IsRawGiven, IsReceivedAt, raw_waiting}

-- How bytes come over TCP, by the buffered stream if it is open.
abbrev pub control_of : Option Stream → Control
control_of None = Closed
control_of (Some stream) = Open stream

-- A client over TCP with this core and this stream.
abbrev pub over_tcp : Protocol → Option Stream → ClientState
over_tcp core stream = record { core = core; control = control_of stream }

-- The client has failed because a memory allocation failed: its agent has no remote address any more.
abbrev pub has_failed : Protocol → Bool
has_failed p = is_none p.agent.remote

-- The chunk belongs to the stream from the server, and the client has not failed.
pub record IsOfStream {T : Type 0} (p : Protocol) (came : Transmit T) : Type 0 where
  pub of_server : IsOfServer p came
  pub works : has_failed p ≡ false

-- The outcome of received bytes while the stream is open. An empty chunk ends the stream. Bytes that don't
-- belong to the stream may have come on the socket of a connection.
pub data IsStreamed {T : Type 0} (items : T → List ℕ) (now : ℕ) (stream : Stream) (old : Protocol)
    (came : Transmit T) (answer : TurnRecvRet T) (new : ClientState) : Type 0 where
  Chunk : IsOfStream old came → items came.bytes ≢ [] → (left : Stream) → new.control ≡ Open left
      → IsChunkTaken items now stream old came answer left new.core
      → IsStreamed items now stream old came answer new
  End : IsOfStream old came → items came.bytes ≡ [] → answer ≡ Handled → new.core ≡ old → new.control ≡ Closed
      → IsStreamed items now stream old came answer new
  Strange : ¬ IsOfStream old came → IsReceivedAt items now old came answer new.core → new.control ≡ Open stream
      → IsStreamed items now stream old came answer new

-- The outcome of received bytes, by how they come. A stream that has ended delivers nothing any more.
abbrev pub IsReceivedBy : {T : Type 0} → (T → List ℕ) → ℕ → Control → Protocol → Transmit T → TurnRecvRet T → ClientState → Type 0
IsReceivedBy items now Datagrams old came answer new =
    IsDatagramTaken items old came now answer new.core × (new.control ≡ Datagrams)
IsReceivedBy items now (Open stream) old came answer new = IsStreamed items now stream old came answer new
IsReceivedBy items now Closed old came answer new =
    IsReceivedAt items now old came answer new.core × (new.control ≡ Closed)

abbrev pub IsReceived : {T : Type 0} → (T → List ℕ) → ClientState → Transmit T → ℕ → TurnRecvRet T → ClientState → Type 0
IsReceived items old came now answer new = IsReceivedBy items now old.control old.core came answer new

-- ---- what waits

-- The buffered frames of the stream are handled until one delivers data.
pub record IsRequestedFor (now : ℕ) (stream : Stream) (old : Protocol) (given : Option PeerPayload) (new : ClientState)
    : Type 0 where
  pub left : Stream
  pub occurs : new.control ≡ Open left
  pub pulled : IsPulled (IsFrameHandled now) stream old given left new.core

-- What is returned if no connection has buffered bytes of its peer, by how bytes come from the server.
abbrev pub IsStreamRequested : ℕ → Control → Protocol → Option PeerPayload → ClientState → Type 0
IsStreamRequested now Datagrams old given new = (given ≡ None) × (new.core ≡ old) × (new.control ≡ Datagrams)
IsStreamRequested now (Open stream) old given new = IsRequestedFor now stream old given new
IsStreamRequested now Closed old given new = (given ≡ None) × (new.core ≡ old) × (new.control ≡ Closed)

-- What is returned. The buffered bytes of a connection come first.
abbrev pub IsFirstGiven : ℕ → Option Connection → Control → Protocol → Option PeerPayload → ClientState → Type 0
IsFirstGiven now (Some c) control old given new = IsRawGiven c old given new.core × (new.control ≡ control)
IsFirstGiven now None control old given new = IsStreamRequested now control old given new

-- What `poll_recv` returns. Over UDP there are no connections.
abbrev pub IsGivenBy : ℕ → Control → Protocol → Option PeerPayload → ClientState → Type 0
IsGivenBy now Datagrams old given new = IsStreamRequested now Datagrams old given new
IsGivenBy now (Open stream) old given new = IsFirstGiven now (raw_waiting old) (Open stream) old given new
IsGivenBy now Closed old given new = IsFirstGiven now (raw_waiting old) Closed old given new

abbrev pub IsWaitingGiven : ClientState → ℕ → Option PeerPayload → ClientState → Type 0
IsWaitingGiven old now given new = IsGivenBy now old.control old.core given new

-- A memory allocation failed while the stream was open. No connection had buffered bytes of its peer, since
-- returning those needs no memory.
pub record IsLostIn (now : ℕ) (stream : Stream) (old : Protocol) (new : ClientState) : Type 0 where
  pub no_raw : raw_waiting old ≡ None
  pub left : Stream
  pub occurs : new.control ≡ Open left
  pub lost : IsLostOn now stream old new.core

-- A memory allocation failed. This happens only if a stream is open and a frame in it needs memory.
abbrev pub IsLostBy : ℕ → Control → Protocol → ClientState → Type 0
IsLostBy now Datagrams old new = ⊥
IsLostBy now (Open stream) old new = IsLostIn now stream old new
IsLostBy now Closed old new = ⊥

abbrev pub IsWaitingLost : ClientState → ℕ → ClientState → Type 0
IsWaitingLost old now new = IsLostBy now old.control old.core new
