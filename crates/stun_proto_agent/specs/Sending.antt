-- What an agent sends, and what it refuses to send (RFC 8489, section 6.1).
use Rattle.std.specs.Prelude.{◌≡◌, ◌⊎◌, ℕ, Bool, true, false, List, Option, Some, None, is_some, if◌then◌else◌}
use Rattle.std.specs.Borrow.{Bor}
use Rattle.std.specs.FinMap as map
use Rattle.std.specs.Option.{option_map, option_or}
use Rattle.std.specs.declared.net.socket_addr.SocketAddr.{SocketAddr}
use Rattle.stun_proto_transaction.specs.Wire.Attributes.{kind_at}
use Rattle.stun_proto_transaction.specs.Wire.Grammar.{number_at, refusal}
use Rattle.stun_proto_transaction.specs.Wire.declared.class.MessageClass.{MessageClass}
use Rattle.stun_proto_transaction.specs.Wire.declared.class.MessageClass.TheVariants.{Request, Indication, Success, Error}
use Rattle.stun_proto_transaction.specs.Wire.Types.{class_of}
use Rattle.stun_proto_transaction.specs.Base.declared.transmit.Transmit.{Transmit}
use Rattle.stun_proto_transaction.specs.Agents.{Transaction, is_due, transmitted}
use Rattle.stun_proto_transaction.specs.Least.{IsLeast}
use Rattle.stun_proto_agent.specs.State.{Agent, is_tcp}
use Rattle.stun_proto_agent.specs.declared.error.StunError.{StunError}
use Rattle.stun_proto_agent.specs.declared.error.StunError.TheVariants.{AlreadyInProgress, ParseError, ProtocolViolation}
use Rattle.stun_proto_transaction.specs.declared.transaction.Cancelled.TheVariants.{Nothing}

abbrev pub is_request_class : MessageClass → Bool
is_request_class Request = true
is_request_class Indication = false
is_request_class Success = false
is_request_class Error = false

-- Whether a message is a request.
abbrev pub is_request : List ℕ → Bool
is_request bytes = is_request_class (class_of (kind_at bytes))

-- Why `send` refuses bytes: they are not a message, or they are a request, which would await a response.
unfoldable pub send_refusal : List ℕ → Option StunError
send_refusal bytes = option_or (option_map ParseError (refusal bytes))
    (if is_request bytes then Some ProtocolViolation else None)

-- Why `send_request` refuses bytes, in this order: they are not a message, the message is not a request, or
-- its transaction ID is outstanding.
unfoldable pub request_refusal : Agent → List ℕ → Option StunError
request_refusal agent bytes = option_or (option_map ParseError (refusal bytes))
    (option_or (if is_request bytes then None else Some ProtocolViolation)
    (if is_some (map.get agent.outstanding (number_at bytes)) then Some AlreadyInProgress else None))

-- A transaction whose first transmission is made at `now`.
abbrev pub started : Agent → List ℕ → SocketAddr → ℕ → Transaction
started agent bytes to now = record {
  bytes = bytes;
  to = to;
  sent = now;
  used = 1;
  waits = agent.waits;
  cancelled = Nothing;
}

-- The agent with a new outstanding request.
abbrev pub with_request : Agent → List ℕ → SocketAddr → ℕ → Agent
with_request agent bytes to now =
    record agent { outstanding = map.insert agent.outstanding (number_at bytes) (started agent bytes to now) }

-- The transmission of a request: its bytes, from the agent's own address to the request's target.
pub record IsSent (agent : Agent) (bytes : List ℕ) (to : SocketAddr) (sent : Transmit (Bor (List ℕ))) : Type 0 where
  pub same_bytes : sent.bytes.now ≡ bytes
  pub transport : sent.transport ≡ agent.transport
  pub source : sent.from ≡ agent.here
  pub target : sent.to ≡ to

-- The agent with a transaction stored under a transaction ID.
abbrev pub stored_under : Agent → ℕ → Transaction → Agent
stored_under agent transaction_id t = record agent { outstanding = map.insert agent.outstanding transaction_id t }

-- Whether a transmission of a transaction is due at `now`.
abbrev pub is_due_of : Agent → ℕ → Transaction → Bool
is_due_of agent now t = is_due (is_tcp agent.transport) now t

-- No transmission is due at `now`.
abbrev pub NoneDue : Agent → ℕ → Type 0
NoneDue agent now = (transaction_id : ℕ) (t : Transaction)
    → map.get agent.outstanding transaction_id ≡ Some t → is_due_of agent now t ≡ false

-- The transmission is that of the due transaction with the least ID.
pub record IsDueSent (agent : Agent) (now : ℕ) (sent : Transmit (Bor (List ℕ))) : Type 0 where
  pub number : ℕ
  pub transaction : Transaction
  pub least : IsLeast (is_due_of agent now) agent.outstanding number transaction
  pub is_sent : IsSent agent transaction.bytes transaction.to sent

-- One more transmission is counted for the due transaction with the least ID.
pub record IsCounted (old : Agent) (now : ℕ) (new : Agent) : Type 0 where
  pub number : ℕ
  pub transaction : Transaction
  pub least : IsLeast (is_due_of old now) old.outstanding number transaction
  pub after : new ≡ stored_under old number (transmitted (is_tcp old.transport) transaction)

-- The agent after `poll_transmit`: unchanged if nothing was due, otherwise with one transmission counted.
abbrev pub IsAfterTransmit : Agent → ℕ → Agent → Type 0
IsAfterTransmit old now new = (NoneDue old now × (new ≡ old)) ⊎ IsCounted old now new
