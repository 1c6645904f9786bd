-- What a received message adds to a client's state (RFC 8489, sections 6.3 and 9.2.5; RFC 8656, sections 7.3,
-- 10.3 and 12.3; RFC 6062, section 4.3).
use Rattle.std.specs.Prelude.{◌≡◌, ◌≢◌, ◌⊎◌, ℕ, List, Some, None}
use Rattle.turn_client_proto_timers.specs.StunTypesWire.Attributes.{Attr}
use Rattle.turn_client_proto_timers.specs.StunTypesWire.Grammar.{visible}
use Rattle.turn_client_proto_timers.specs.StunTypesIntegrity.Integrity.{algorithm_of}
use Rattle.turn_client_proto_timers.specs.StunTypesWire.declared.class.MessageClass.TheVariants.{Success}
use Rattle.turn_client_proto_recv.specs.StunProtoClient.Client.{Challenge}
use Rattle.turn_client_proto_timers.specs.TurnRuns.Members.{IsIn}
use Rattle.turn_client_proto_timers.specs.TurnRuns.Messages.{Asks, Brings, Held, Holds, Message}
use Rattle.turn_client_proto_timers.specs.TurnRuns.Steps.{WasKnown}
use Rattle.turn_client_proto_timers.specs.TurnRuns.StunWire.{AreValid, key_in, stun_wire}
use Rattle.turn_client_proto_timers.specs.Core.declared.protocol.Protocol.{Protocol}
use Rattle.turn_client_proto_step_laws.specs.ClientWords.{IsStored, IsOutstanding, challenge_of, client_words}
use Rattle.turn_client_proto_step_laws.specs.RunClient.{Client}

-- The bytes validate under the client's key: that of its name and password, in the realm of its stored
-- challenge, for the algorithm that it chose for that challenge, and by that algorithm.
pub record IsSignedFor (c : Client) (bytes : List ℕ) : Type 0 where
  pub challenge : Challenge
  pub stored : challenge_of c.core ≡ Some challenge
  pub text : List ℕ
  pub valid : AreValid bytes (key_in c.credentials challenge.realm challenge.choice) challenge.choice text

-- No visible attribute of the bytes is a MESSAGE-INTEGRITY, a MESSAGE-INTEGRITY-SHA256 or a
-- MESSAGE-INTEGRITY-SHA512.
abbrev pub ShowNoIntegrity : List ℕ → Type 0
ShowNoIntegrity bytes = (a : Attr) → IsIn a (visible bytes) → algorithm_of a.kind ≡ None

-- The bytes are the success response that brings the client this item. They validate under its key. A request
-- with their transaction ID was outstanding, and it asked for this very item; afterwards no request with that
-- ID is outstanding. The connection ID and the peer of a connection were known before.
pub record IsAnsweredBy (c : Client) (bytes : List ℕ) (new : Protocol) (held : Held) : Type 0 where
  pub response : Message
  pub shows : stun_wire.visible bytes ≡ Some response
  pub signed : IsSignedFor c bytes
  pub success : response.class ≡ Success
  pub brings : Brings response (Holds held)
  pub request : Message
  pub waited : IsOutstanding c.core.agent request
  pub number_is : request.number ≡ response.number
  pub asks : Asks request (Holds held)
  pub spent : (other : Message) → IsOutstanding new.agent other → other.number ≢ response.number
  pub known : WasKnown client_words c held

-- Each item that the client has afterwards it had before, or these bytes bring it as a response.
abbrev pub AddsAnswered : Client → (bytes : List ℕ) → Protocol → Type 0
AddsAnswered c bytes new = (held : Held) → IsStored new.allocations held
    → IsStored c.core.allocations held ⊎ IsAnsweredBy c bytes new held

-- Each item that the client has afterwards it had before.
abbrev pub AddsNothing : (old new : Protocol) → Type 0
AddsNothing old new = (held : Held) → IsStored new.allocations held → IsStored old.allocations held
