-- The effects of responses and challenges, whatever was requested (RFC 8489, sections 6.3 and 9.2.5).
use Rattle.std.specs.Prelude.{ℕ, ◌+◌, nat_lt, Bool, true, false, List}
use Rattle.stun_proto_client.specs.Client as auth
use Rattle.stun_proto_agent.specs.Handling.{after_message}
use Rattle.stun_types_wire.specs.declared.class.MessageClass.{MessageClass}
use Rattle.stun_types_wire.specs.declared.class.MessageClass.TheVariants.{Error}
use Rattle.turn_client_proto_core.specs.declared.protocol.Protocol.{Protocol}

-- A client that has answered more challenges in a row than this, with no accepted response between them,
-- answers no more: the tenth ends it.
abbrev pub most_resends : ℕ
most_resends = 8

-- The client has answered too many challenges in a row, with no accepted response between them, to answer
-- another.
abbrev pub is_tired : Protocol → Bool
is_tired p = nat_lt most_resends p.resends

abbrev pub is_error_class : MessageClass → Bool
is_error_class Error = true
is_error_class _ = false

-- The client with this authenticator.
abbrev pub judged : auth.Client → Protocol → Protocol
judged auth p = record p { auth = auth }

-- The client after a response ended its transaction in the agent.
unfoldable pub answered : List ℕ → Protocol → Protocol
answered bytes p = record p { agent = after_message p.agent bytes p.server }

-- The client after it accepted a response: the transaction has ended, and the count of challenges is reset.
unfoldable pub accepted : List ℕ → Protocol → Protocol
accepted bytes p = record p { agent = after_message p.agent bytes p.server; resends = 0 }

-- The client after it answered a challenge: the transaction has ended, and the challenge is counted.
unfoldable pub challenged : List ℕ → Protocol → Protocol
challenged bytes p = record p { agent = after_message p.agent bytes p.server; resends = p.resends + 1 }
