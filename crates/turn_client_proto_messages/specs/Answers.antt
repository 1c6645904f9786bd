-- The client's responses to a CONNECTION_ATTEMPT, as they are written (RFC 6062, section 4.4).
use Rattle.std.specs.Prelude.{◌≡◌, ◌⊎◌, ℕ, List, [], ◌∷◌, ◌++◌, map}
use Rattle.stun_types_wire.specs.Attributes.{Attr}
use Rattle.stun_types_add.specs.Calls.{Ordinary, attributes_of}
use Rattle.stun_types_write.specs.Drafts.{Draft}
use Rattle.stun_types_wire.specs.declared.class.MessageClass.{MessageClass}
use Rattle.stun_types_wire.specs.declared.class.MessageClass.TheVariants.{Error, Success}
use Rattle.stun_types_message.specs.Objections.{error_attribute}
use Rattle.stun_types_wire.specs.Registry.{bad_request_code, connection_exists_code, connection_failure_code}
use Rattle.stun_types_wire.specs.Text.{message_text}
use Rattle.stun_types_wire.specs.Types.{type_of}
use Rattle.turn_types_attributes.specs.TurnRegistry.{connection_attempt_method}
use Rattle.stun_proto_auth.specs.Addition.{calls_of}
use Rattle.stun_proto_client.specs.Client as auth
use Rattle.stun_proto_client.specs.ClientSigning.{addition_for}
use Rattle.turn_client_proto_messages.specs.Composing.{IsUnsigned}
use Rattle.turn_client_proto_messages.specs.declared.answer.AttemptAnswer.{AttemptAnswer}
use Rattle.turn_client_proto_messages.specs.declared.answer.AttemptAnswer.TheVariants.{Accepted, AlreadyExists, BadRequest, Failed}

-- The class of the response: success or error.
abbrev pub answer_class : AttemptAnswer → MessageClass
answer_class Accepted = Success
answer_class BadRequest = Error
answer_class AlreadyExists = Error
answer_class Failed = Error

abbrev pub answer_type : AttemptAnswer → ℕ
answer_type answer = type_of (answer_class answer) connection_attempt_method

-- The code is one of the error codes of these responses.
abbrev pub is_answer_code : ℕ → Type 0
is_answer_code code = (code ≡ bad_request_code) ⊎ ((code ≡ connection_exists_code) ⊎ (code ≡ connection_failure_code))

-- The attributes of the response before it is signed: none, or ERROR-CODE.
abbrev pub answer_attributes : AttemptAnswer → List Attr
answer_attributes Accepted = []
answer_attributes BadRequest = error_attribute bad_request_code ∷ []
answer_attributes AlreadyExists = error_attribute connection_exists_code ∷ []
answer_attributes Failed = error_attribute connection_failure_code ∷ []

-- The draft is the response before it is signed.
abbrev pub IsAnswer : AttemptAnswer → ℕ → Draft → Type 0
IsAnswer answer transaction_id draft = IsUnsigned (answer_type answer) transaction_id (answer_attributes answer) draft

-- The bytes of the response to the request with this transaction ID.
unfoldable pub answer_text : auth.Client → AttemptAnswer → ℕ → List ℕ
answer_text client answer transaction_id = message_text (answer_type answer) transaction_id
    (attributes_of (answer_type answer) transaction_id
    (map Ordinary (answer_attributes answer) ++ calls_of (addition_for client (answer_class answer))))
