-- How a message from the server reaches a client that holds nothing yet: in a datagram, or in chunks of the
-- stream (RFC 8489, sections 6.2.1 and 6.2.2; RFC 8656, section 12.5).
use Rattle.std.specs.Prelude.{◌≡◌, ◌≢◌, ◌++◌, ℕ, Bool, false, List, [], None, Some}
use Rattle.turn_client_proto_api.specs.StunTypesWire.Grammar.{refusal}
use Rattle.stun_types_base.specs.declared.transmit.Transmit.{Transmit}
use Rattle.turn_client_proto_api.specs.TurnTypesFrame.Streams.{alive}
use Rattle.turn_client_proto_api.specs.declared.answer.TurnRecvRet.{TurnRecvRet}
use Rattle.turn_client_proto_api.specs.declared.answer.TurnRecvRet.TheVariants.{NoMemory}
use Rattle.turn_client_proto_recv.specs.Control.{Control, Open}
use Rattle.turn_client_proto_core.specs.Deleting.{is_authenticated}
use Rattle.turn_client_proto_core.specs.Ending.{HasFailed}
use Rattle.turn_client_proto_core.specs.Receiving.{IsProcessed}
use Rattle.turn_client_proto_recv.specs.Datagrams.{IsHandledAs}
use Rattle.turn_client_proto_recv.specs.ClientState.{ClientState, Protocol}
use Rattle.turn_client_proto_handshake_laws.specs.Sent.{Beginning}

-- The client's transport, its own address and the server's are those of its start; it has not failed.
pub record HasAddresses (b : Beginning) (p : Protocol) : Type 0 where
  pub server : p.server ≡ b.server
  pub remote : p.agent.remote ≡ Some b.server
  pub transport : p.agent.transport ≡ b.transport
  pub here : p.agent.here ≡ b.here

-- A client to which the server has allocated nothing.
pub record IsUnserved (b : Beginning) (p : Protocol) : Type 0 where
  pub settings : HasAddresses b p
  pub allocations : p.allocations ≡ []
  pub phase : is_authenticated p.phase ≡ false

-- The bytes come from the client's server to its own address.
pub record IsFromServer {T : Type 0} (b : Beginning) (came : Transmit T) : Type 0 where
  pub transport : came.transport ≡ b.transport
  pub from : came.from ≡ b.server
  pub to : came.to ≡ b.here

-- Over TCP exactly these bytes of a message are buffered.
abbrev pub HasCome : List ℕ → ClientState → Type 0
HasCome before k = k.control ≡ Open (alive before)

-- These bytes are a proper prefix of a message.
pub record IsPartOf (part message : List ℕ) : Type 0 where
  pub is_message : refusal message ≡ None
  pub rest : List ℕ
  pub parts : message ≡ part ++ rest
  pub more : rest ≢ []

-- The message was handled; the result says whether it was for the client; and afterwards this is the state of
-- the control connection.
pub record IsProcessedAs {T : Type 0} (old : ClientState) (message : List ℕ) (came : Transmit T) (now : ℕ) (control : Control)
    (answer : TurnRecvRet T) (new : ClientState) : Type 0 where
  pub handled : Bool
  pub processed : IsProcessed old.core message now handled new.core
  pub answer_is : IsHandledAs came handled answer
  pub control_is : new.control ≡ control

-- Memory ran out, and the client has failed.
abbrev pub IsLost : {T : Type 0} → ClientState → Transmit T → TurnRecvRet T → ClientState → Type 0
IsLost old came answer new = (answer ≡ NoMemory came) × HasFailed old.core new.core
