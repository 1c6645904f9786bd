-- How an agent handles a received message (RFC 8489, section 6.3).
use Rattle.std.specs.Prelude.{ℕ, Bool, true, ◌&&◌, List, is_some, if◌then◌else◌}
use Rattle.std.specs.FinMap as map
use Rattle.std.specs.declared.net.socket_addr.SocketAddr.{SocketAddr}
use Rattle.stun_proto_transaction.specs.Wire.Attributes.{kind_at}
use Rattle.stun_proto_transaction.specs.Wire.Grammar.{number_at}
use Rattle.stun_proto_transaction.specs.Wire.Types.{class_of, is_response_class}
use Rattle.stun_proto_agent.specs.State.{Agent}

-- Whether a message is a response.
abbrev pub is_response : List ℕ → Bool
is_response bytes = is_response_class (class_of (kind_at bytes))

-- Whether a request with the message's transaction ID is outstanding.
abbrev pub is_awaited : Agent → List ℕ → Bool
is_awaited agent bytes = is_some (map.get agent.outstanding (number_at bytes))

-- Whether the caller should process a message: it is a response to an outstanding request, or no response.
abbrev pub is_taken : Agent → List ℕ → Bool
is_taken agent bytes = if is_response bytes then is_awaited agent bytes else true

-- Whether a message ends a transaction: it is a response to an outstanding request.
abbrev pub ends_one : Agent → List ℕ → Bool
ends_one agent bytes = is_response bytes && is_awaited agent bytes

-- The agent without the transaction that a response ended, and with the response's source address validated.
abbrev pub answered : Agent → List ℕ → SocketAddr → Agent
answered agent bytes from = record agent {
  outstanding = map.remove agent.outstanding (number_at bytes);
  validated = map.insert agent.validated from tt;
}

-- The agent after a message. It is unchanged if the message ends no transaction.
abbrev pub after_message : Agent → List ℕ → SocketAddr → Agent
after_message agent bytes from = if ends_one agent bytes then answered agent bytes from else agent
