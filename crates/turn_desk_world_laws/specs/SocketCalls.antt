-- What a run sees of bytes on the socket of a connection to a peer (RFC 6062, sections 4.3 and 4.5).
use Rattle.std.specs.Prelude.{◌≡◌, ℕ, true, false, ◌++◌, List, [], ◌∷◌, Option, Some, None, if◌then◌else◌}
use Rattle.std.specs.declared.net.socket_addr.SocketAddr.{SocketAddr}
use Rattle.turn_desk_core.specs.StunTypesWire.Grammar.{refusal}
use Rattle.turn_desk_core.specs.StunTypesWire.declared.error.StunParseError.{StunParseError}
use Rattle.turn_desk_event.specs.TurnTypesFrame.StreamAnswers.{IsNone, after_look, joined, looked}
use Rattle.turn_desk_event.specs.TurnTypesFrame.Streams.{Stream, alive}
use Rattle.turn_desk_step_laws.specs.TurnClientProtoAllocation.declared.connection.Binding.{Binding}
use Rattle.turn_desk_step_laws.specs.TurnClientProtoAllocation.declared.connection.Connection.{Connection}
use Rattle.turn_desk_event.specs.TurnClientProtoApi.Payloads.{PeerPayload}
use Rattle.turn_client_proto_step_laws.specs.Recv.Closing.{after_close}
use Rattle.turn_desk_world.specs.TurnClientProtoConnection.Streams.{emptied, from as over}
use Rattle.turn_client_proto_step_laws.specs.Recv.ClientState.{Protocol}
use Rattle.turn_desk_step_laws.specs.TurnRuns.Messages.{FromConnection}
use Rattle.turn_desk_step_laws.specs.TurnClientProtoAllocation.Same.{is_same_address}
use Rattle.turn_client_proto_step_laws.specs.Recv.Pulls.{frame_of}
use Rattle.turn_client_proto_step_laws.specs.RunClient.{Client}
use Rattle.turn_client_proto_step_laws.specs.Recv.SocketChunks.{IsMessageProcessed, after_raw, is_joining, raw_given, raw_stored, with_stored}
use Rattle.turn_desk_step_laws.specs.TurnRuns.Steps.{Call}
use Rattle.turn_desk_event.specs.declared.answer.Answer.{Answer}
use Rattle.turn_desk_event.specs.declared.answer.Answer.TheVariants as answer

-- The call transmits, reports and lists nothing.
pub record IsQuiet (call : Call Client) : Type 0 where
  pub transmitted_is : call.transmitted ≡ None
  pub answered_is : call.answered ≡ []
  pub visible_is : call.visible ≡ []

-- The connection on whose socket bytes came from the server.
abbrev pub socket_at : Protocol → (from to : SocketAddr) → Option Connection
socket_at p from to = if is_same_address from p.server then over to p.allocations else None

-- ---- calls in which no message comes

-- Nothing arrives, is handled or is delivered, and the client's core is `core` afterwards.
pub record IsStill (core : Protocol) (call : Call Client) : Type 0 where
  pub quiet : IsQuiet call
  pub came_is : call.came ≡ []
  pub handled_is : call.handled ≡ []
  pub payloads_are : call.payloads ≡ []
  pub core_is : call.after.core ≡ core
  pub waits : call.after.waiting ≡ call.before.waiting

-- The result gives nothing from a peer.
abbrev pub GivesNothing : Answer → Type 0
GivesNothing (answer.Peer given) = ⊥
GivesNothing (answer.Icmp transport peer kind code details) = ⊥
GivesNothing _ = Unit {0}

-- Bytes of a connection's peer are delivered, which are in the result. They are no message, and none arrives.
pub record IsPassedOn (c : Connection) (given : PeerPayload) (core : Protocol) (ret : Answer) (call : Call Client)
    : Type 0 where
  pub quiet : IsQuiet call
  pub came_is : call.came ≡ []
  pub handled_is : call.handled ≡ []
  pub answered : ret ≡ answer.Peer given
  pub payloads_are : call.payloads ≡ FromConnection c.here c.peer given.payload ∷ []
  pub core_is : call.after.core ≡ core
  pub waits : call.after.waiting ≡ call.before.waiting

-- One such call leads the client from `first` to `last`.
abbrev pub IsOne : (Call Client → Type 0) → Client → List (Call Client) → Client → Type 0
IsOne Is first calls last =
    (call : Call Client) × (calls ≡ call ∷ []) × (call.before ≡ first) × (last ≡ call.after) × Is call

-- ---- until the connection is bound

-- A message arrived on the socket with this local address and was handled, by the contract of the client.
pub record IsMessageOver (here : SocketAddr) (now : ℕ) (frame : List ℕ) (call : Call Client) : Type 0 where
  pub quiet : IsQuiet call
  pub came_is : call.came ≡ frame ∷ []
  pub handled_is : call.handled ≡ frame ∷ []
  pub payloads_are : call.payloads ≡ []
  pub message : refusal frame ≡ None
  pub processed : IsMessageProcessed here now call.before.core frame call.after.core
  pub waits : call.after.waiting ≡ call.before.waiting

-- The frames at the head of the stream that came on the socket were handled one after another, as long as the
-- connection was still to be bound and a frame was complete. Each message among them is a call of its own;
-- the newest call is the first in the list. What follows the message that binds the connection is no frame,
-- and did not arrive.
pub data AreProcessedOver (here : SocketAddr) (now : ℕ) : Stream → Client → List (Call Client) → Stream → Client → Type 0 where
  Stops : (stream : Stream) (c : Client) → is_joining here c.core ≡ false → AreProcessedOver here now stream c [] stream c
  Waits : (stream : Stream) (c : Client) → is_joining here c.core ≡ true → IsNone (looked stream)
      → AreProcessedOver here now stream c [] (after_look stream) c
  Passes : (stream : Stream) (c : Client) (calls : List (Call Client)) (left : Stream) (last : Client)
      (error : StunParseError) → is_joining here c.core ≡ true → ¬ IsNone (looked stream)
      → refusal (frame_of stream) ≡ Some error → AreProcessedOver here now (after_look stream) c calls left last
      → AreProcessedOver here now stream c calls left last
  Processes : (stream : Stream) (call : Call Client) (later : List (Call Client)) (left : Stream) (last : Client)
      → is_joining here call.before.core ≡ true → ¬ IsNone (looked stream)
      → IsMessageOver here now (frame_of stream) call → AreProcessedOver here now (after_look stream) call.after later left last
      → AreProcessedOver here now stream call.before (later ++ call ∷ []) left last

-- A chunk came on the socket of a connection that is still to be bound. Its buffered bytes are taken out
-- before, and put back afterwards.
pub record AreCallsOfJoining (c : Connection) (to : SocketAddr) (now : ℕ) (bytes : List ℕ) (first : Client)
    (calls : List (Call Client)) (last : Client) : Type 0 where
  pub out : Call Client
  pub begins : out.before ≡ first
  pub taken_out : IsStill (with_stored to (alive []) first.core) out
  pub processed : List (Call Client)
  pub left : Stream
  pub middle : Client
  pub are_processed : AreProcessedOver to now (joined c.stream bytes) out.after processed left middle
  pub back : Call Client
  pub continues : back.before ≡ middle
  pub put_back : IsStill (with_stored to left middle.core) back
  pub ends : last ≡ back.after
  pub calls_are : calls ≡ back ∷ processed ++ out ∷ []

-- ---- bytes over a socket

-- Bytes came on the socket of a connection:
--
-- - No bytes close it.
-- - Before the connection is bound, nothing of them is delivered.
-- - After that they are its peer's, and are delivered after the buffered ones.
abbrev pub AreCallsBound : Option Binding → Connection → (to : SocketAddr) → ℕ → List ℕ → Answer → Protocol → Client
    → List (Call Client) → Client → Type 0
AreCallsBound (Some binding) c to now bytes answer p first calls last =
    GivesNothing answer × AreCallsOfJoining c to now bytes first calls last
AreCallsBound None c to now bytes answer p first calls last =
    IsOne (IsPassedOn c (record (raw_given c bytes) { index = None }) (after_raw to c p) answer) first calls last

abbrev pub AreCallsOver : Connection → (to : SocketAddr) → ℕ → List ℕ → Answer → Protocol → Client → List (Call Client)
    → Client → Type 0
AreCallsOver c to now [] answer p first calls last =
    GivesNothing answer × IsOne (IsStill (after_close to p.server p)) first calls last
AreCallsOver c to now (byte ∷ bytes) answer p first calls last =
    AreCallsBound c.awaited c to now (byte ∷ bytes) answer p first calls last

-- ---- bytes that wait

-- Buffered bytes of a bound connection are delivered.
abbrev pub AreCallsOfWaiting : Connection → Answer → Protocol → Client → List (Call Client) → Client → Type 0
AreCallsOfWaiting c answer p first calls last =
    IsOne (IsPassedOn c (raw_stored c) (record p { allocations = emptied p.allocations }) answer) first calls last
