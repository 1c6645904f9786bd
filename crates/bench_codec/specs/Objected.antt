-- The error response to a request if no attribute type is supported (RFC 8489, section 6.3.1).
use Rattle.std.specs.Prelude.{ℕ, List, []}
use Rattle.stun_types_wire.specs.Grammar.{number_at, visible}
use Rattle.stun_types_wire.specs.Text.{message_text}
use Rattle.stun_types_message.specs.Objections.{error_type, unknown_kinds, unknown_response_attributes}

-- The bytes of the response: ERROR-CODE 420, and UNKNOWN-ATTRIBUTES with each visible comprehension-required
-- type.
abbrev pub unknown_text : List ℕ → List ℕ
unknown_text request =
    message_text (error_type request) (number_at request)
    (unknown_response_attributes (unknown_kinds (visible request) []))
