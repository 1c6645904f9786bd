-- What a client notes of a message's cause, address and redirect stands on a response (RFC 8489, sections 6.3, 9.2.5 and
-- 10; RFC 8656, section 7.3).
use Rattle.std.specs.Prelude.{◌≡◌, ℕ, true, false, List, Some}
use Rattle.turn_client_proto_timers.specs.StunProtoAgent.Handling.{is_awaited}
use Rattle.turn_client_proto_timers.specs.StunTypesWire.Attributes.{kind_at}
use Rattle.turn_client_proto_timers.specs.StunTypesWire.Types.{class_of}
use Rattle.turn_client_proto_timers.specs.Messages.Reported.{first_code}
use Rattle.turn_client_proto_timers.specs.Core.Responding.{is_error_class}
use Rattle.turn_client_proto_timers.specs.Core.declared.protocol.Protocol.{Protocol}
use Rattle.turn_client_proto_step_laws.specs.Adding.{IsSignedFor}
use Rattle.turn_client_proto_step_laws.specs.RunClient.{Client}

-- The bytes are an error response with this code. A request with their transaction ID was outstanding, and none is
-- afterwards.
pub record IsErrorTo (old : Protocol) (bytes : List ℕ) (new : Protocol) (code : ℕ) : Type 0 where
  pub error : is_error_class (class_of (kind_at bytes)) ≡ true
  pub code_is : first_code bytes ≡ Some code
  pub waited : is_awaited old.agent bytes ≡ true
  pub spent : is_awaited new.agent bytes ≡ false

-- The bytes are such an error response, and they validate under the client's key.
pub record IsSignedErrorTo (c : Client) (bytes : List ℕ) (new : Protocol) (code : ℕ) : Type 0 where
  pub is : IsErrorTo c.core bytes new code
  pub signed : IsSignedFor c bytes
