-- A message from the server that carries no data of a peer, as it reaches a client: in a datagram, or in
-- chunks of the stream (RFC 8489, sections 6.2.1 and 6.2.2; RFC 8656, section 12.5).
use Rattle.std.specs.Prelude.{◌≡◌, List, ℕ, None}
use Rattle.turn_client_proto_messages.specs.StunTypesWire.Attributes.{kind_at}
use Rattle.turn_client_proto_messages.specs.StunTypesWire.Grammar.{refusal}
use Rattle.turn_client_proto_messages.specs.StunTypesWire.declared.class.MessageClass.TheVariants.{Success}
use Rattle.turn_client_proto_messages.specs.StunTypesWire.Types.{class_of}

-- The bytes are a success response.
pub record IsSuccess (bytes : List ℕ) : Type 0 where
  pub message : refusal bytes ≡ None
  pub success : class_of (kind_at bytes) ≡ Success
