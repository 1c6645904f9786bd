-- Chunks that come over the socket of a connection to a peer, one after another, and all that they deliver
-- (RFC 6062, sections 4.3 and 4.5).
use Rattle.std.specs.Prelude.{◌≡◌, ◌≢◌, ⊤, ℕ, List, [], ◌∷◌, ◌++◌, map, Option, Some, None}
use Rattle.std.specs.List.{concat}
use Rattle.std.specs.declared.net.socket_addr.SocketAddr.{SocketAddr}
use Rattle.turn_client_proto_timers.specs.StunTypesBase.declared.transmit.Transmit.{Transmit}
use Rattle.turn_client_proto_recv.specs.TurnTypesFrame.StreamAnswers.{IsNone, after_look, looked}
use Rattle.turn_client_proto_recv.specs.TurnTypesFrame.Streams.{Stream, alive}
use Rattle.turn_client_proto_timers.specs.Allocation.declared.connection.Binding.{Binding}
use Rattle.turn_client_proto_timers.specs.Allocation.declared.connection.Connection.{Connection}
use Rattle.turn_client_proto_timers.specs.Api.Payloads.{PeerPayload}
use Rattle.turn_client_proto_timers.specs.Api.declared.answer.TurnRecvRet.{TurnRecvRet}
use Rattle.turn_client_proto_timers.specs.Api.declared.answer.TurnRecvRet.TheVariants.{NoMemory}
use Rattle.turn_client_proto_timers.specs.Connection.Streams.{from}
use Rattle.turn_client_proto_timers.specs.Core.declared.protocol.Protocol.{Protocol}
use Rattle.turn_client_proto_recv.specs.Control.{Control, Datagrams, Open, Closed}
use Rattle.turn_client_proto_step_laws.specs.Cuts.{IsRequestedOut, data_answered}
use Rattle.turn_client_proto_recv.specs.ClientState.{ClientState}
use Rattle.turn_client_proto_recv.specs.Receipts.{IsReceived}
use Rattle.turn_client_proto_recv.specs.SocketChunks.{raw_waiting}

-- A chunk came from the server over the socket with this local address.
pub record IsOverSocket {T : Type 0} (here : SocketAddr) (p : Protocol) (came : Transmit T) : Type 0 where
  pub transport : came.transport ≡ p.agent.transport
  pub source : came.from ≡ p.server
  pub to : came.to ≡ here

-- A chunk of at least one byte came over this socket at a time, and memory did not run out; then `poll_recv`
-- was called until it returned nothing.
pub record IsDrainedOver {T : Type 0} (items : T → List ℕ) (here : SocketAddr) (now : ℕ) (old : ClientState)
    (came : Transmit T) (given : List PeerPayload) (new : ClientState) : Type 0 where
  pub over : IsOverSocket here old.core came
  pub has_bytes : items came.bytes ≢ []
  pub answer : TurnRecvRet T
  pub ample : answer ≢ NoMemory came
  pub between : ClientState
  pub received : IsReceived items old came now answer between
  pub waiting : List PeerPayload
  pub requested : IsRequestedOut now between waiting new
  pub gives : given ≡ data_answered answer ++ waiting

-- Chunks were received and drained in this way, one after another.
abbrev pub AreDrainedOver : {T : Type 0} → (T → List ℕ) → SocketAddr → ℕ → ClientState → List (Transmit T)
    → List PeerPayload → ClientState → Type 0
AreDrainedOver items here now old [] given new = (given ≡ []) × (new ≡ old)
AreDrainedOver items here now old (came ∷ others) given new =
    (between : ClientState) × (first later : List PeerPayload) × IsDrainedOver items here now old came first between
    × (given ≡ first ++ later) × AreDrainedOver items here now between others later new

-- All delivered bytes, joined.
abbrev pub bytes_given : List PeerPayload → List ℕ
bytes_given given = concat (map (λ g. g.payload) given)

-- The stream buffers no complete frame.
pub record HasNoFrame (stream : Stream) : Type 0 where
  pub none : IsNone (looked stream)
  pub left : after_look stream ≡ stream

-- The client uses TCP to its server, and its own stream buffers no complete frame.
abbrev pub IsControlDrained : Control → Type 0
IsControlDrained Datagrams = ⊥
IsControlDrained (Open stream) = HasNoFrame stream
IsControlDrained Closed = ⊤

-- The stream of a connection that is to be bound buffers no complete frame. That of a bound connection
-- buffers nothing.
abbrev pub IsConnectionDrained : Option Binding → Stream → Type 0
IsConnectionDrained (Some awaited) stream = HasNoFrame stream
IsConnectionDrained None stream = stream ≡ alive []

-- A client that buffers no complete frame and no peer bytes, and one of whose connections may have this local
-- address, which is not the client's own.
pub record IsSocketDrained (here : SocketAddr) (k : ClientState) : Type 0 where
  pub control : IsControlDrained k.control
  pub apart : here ≢ k.core.agent.here
  pub none_raw : raw_waiting k.core ≡ None
  pub drained : (c : Connection) → from here k.core.allocations ≡ Some c → IsConnectionDrained c.awaited c.stream
