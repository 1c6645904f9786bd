-- Why an event happened, as C gets it.
use Rattle.std.specs.Prelude.{ℕ, Bool, false, List, length, Option, Some, None}
use Rattle.std.specs.declared.net.socket_addr.SocketAddr.{SocketAddr}
use Rattle.turn_client_proto_api.specs.declared.cause.TurnCause.{TurnCause}
use Rattle.turn_client_proto_api.specs.declared.cause.TurnCause.TheVariants as cause
use Rattle.turn_client_c_types.specs.Addresses.{no_address, reported_address}
use Rattle.turn_client_c_types.specs.declared.address.TurnAddress.{TurnAddress}
use Rattle.turn_client_c_types.specs.declared.cause.TurnClientCause.{TurnClientCause}

-- The number of a cause. 0 means that there is none: the event reports success.
abbrev pub kind_of : Option TurnCause → ℕ
kind_of None = 0
kind_of (Some (cause.Rejected code reason is_signed)) = 1
kind_of (Some cause.Unanswered) = 2
kind_of (Some cause.Integrity) = 3
kind_of (Some cause.NoCommonAlgorithm) = 4
kind_of (Some cause.OtherFamily) = 5
kind_of (Some cause.OutOfMemory) = 6
kind_of (Some cause.Deleted) = 7
kind_of (Some cause.Expired) = 8
kind_of (Some cause.SocketClosed) = 9
kind_of (Some cause.Unusable) = 10

-- The code of the error response by which the server rejected the request (RFC 8489, section 14.8), and otherwise 0.
abbrev pub code_of : Option TurnCause → ℕ
code_of (Some (cause.Rejected code reason is_signed)) = code
code_of _ = 0

-- The error response was validated; false if the server rejected nothing.
abbrev pub is_signed_of : Option TurnCause → Bool
is_signed_of (Some (cause.Rejected code reason is_signed)) = is_signed
is_signed_of _ = false

-- The reason phrase of the error response; none if the server rejected nothing.
abbrev pub reason_of : Option TurnCause → Option (List ℕ)
reason_of (Some (cause.Rejected code reason is_signed)) = Some reason
reason_of _ = None

-- The size of a text in bytes; 0 if there is none.
abbrev pub size_of_text : Option (List ℕ) → ℕ
size_of_text None = 0
size_of_text (Some text) = length text

-- An address; family 0 if there is none.
abbrev pub address_or_none : Option SocketAddr → TurnAddress
address_or_none None = no_address 0
address_or_none (Some address) = reported_address address

-- A cause, and the server and its domain's name that a response 300 named (RFC 8489, section 10).
abbrev pub reported_cause : Option TurnCause → Option SocketAddr → Option (List ℕ) → TurnClientCause
reported_cause cause alternate domain = record {
  kind = kind_of cause;
  code = code_of cause;
  is_signed = is_signed_of cause;
  reason_size = size_of_text (reason_of cause);
  alternate = address_or_none alternate;
  domain_size = size_of_text domain;
}
