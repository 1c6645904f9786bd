-- What C gets of why events happened, of the client's own address, and of the server that it was directed to.
use Rattle.std.specs.Prelude.{◌≡◌, ℕ, ℤ, nat_lt, List, length, Option, Some, None, if◌then◌else◌}
use Rattle.std.specs.declared.net.socket_addr.SocketAddr.{SocketAddr}
use Rattle.turn_client_proto.specs.Clients.{noted_of}
use Rattle.turn_client_proto.specs.Api.Causes.{cause_taken}
use Rattle.turn_client_proto.specs.Recv.declared.notes.Notes.{Notes}
use Rattle.turn_client_c_calls.specs.Codes as code
use Rattle.turn_client_c_calls.specs.Held.{Held}
use Rattle.turn_client_c_calls.specs.Traffic.{written}
use Rattle.turn_client_c_types.specs.Addresses.{reported_address}
use Rattle.turn_client_c_types.specs.Causes.{reason_of, reported_cause}
use Rattle.turn_client_c_types.specs.declared.address.TurnAddress.{TurnAddress}
use Rattle.turn_client_c_types.specs.declared.cause.TurnClientCause.{TurnClientCause}

-- A call that reads what the client has noted: the client stays as it is. Without a client it returns `no_client`,
-- and writes nothing.
abbrev pub Reads : {A : Type 0} → (Notes → ℤ) → (Notes → A → A) → (old new : Held) → ℤ → (before reported : A) → Type 0
Reads answer report None new status before reported = (status ≡ code.no_client) × (new ≡ None) × (reported ≡ before)
Reads answer report (Some old) new status before reported = (status ≡ answer (noted_of old.client)) × (new ≡ Some old)
    × (reported ≡ report (noted_of old.client) before)

-- Why the event that was returned last happened, and the server that a response 300 named.
abbrev pub cause_status : Notes → ℤ
cause_status noted = code.ok

abbrev pub cause_noted : Notes → TurnClientCause → TurnClientCause
cause_noted noted before = reported_cause (cause_taken noted.causes) noted.alternate noted.domain

-- A text, for a buffer of this size.
abbrev pub text_status : ℕ → Option (List ℕ) → ℤ
text_status room None = code.nothing
text_status room (Some text) = if nat_lt room (length text) then code.small_buffer else code.ok

abbrev pub text_written : Option (List ℕ) → List ℕ → List ℕ
text_written None out = out
text_written (Some text) out = written text out

-- The reason phrase of the error response by which the server rejected the request (RFC 8489, section 14.8).
abbrev pub reason_status : ℕ → Notes → ℤ
reason_status room noted = text_status room (reason_of (cause_taken noted.causes))

abbrev pub reason_written : Notes → List ℕ → List ℕ
reason_written noted = text_written (reason_of (cause_taken noted.causes))

-- The name of the domain of the server that a response 300 named (RFC 8489, section 14.16).
abbrev pub domain_status : ℕ → Notes → ℤ
domain_status room noted = text_status room noted.domain

abbrev pub domain_written : Notes → List ℕ → List ℕ
domain_written noted = text_written noted.domain

-- The client's own address, as the server saw it (RFC 8656, section 7.3).
abbrev pub mapped_status_of : Option SocketAddr → ℤ
mapped_status_of None = code.nothing
mapped_status_of (Some address) = code.ok

abbrev pub mapped_over : Option SocketAddr → TurnAddress → TurnAddress
mapped_over None before = before
mapped_over (Some address) before = reported_address address

abbrev pub mapped_status : Notes → ℤ
mapped_status noted = mapped_status_of noted.mapped

abbrev pub mapped_reported : Notes → TurnAddress → TurnAddress
mapped_reported noted = mapped_over noted.mapped

-- The token of the port that the server reserved (RFC 8656, section 18.10).
abbrev pub reservation_status_of : Option ℕ → ℤ
reservation_status_of None = code.nothing
reservation_status_of (Some token) = code.ok

abbrev pub reservation_over : Option ℕ → ℕ → ℕ
reservation_over None before = before
reservation_over (Some token) before = token

abbrev pub reservation_status : Notes → ℤ
reservation_status noted = reservation_status_of noted.reservation

abbrev pub reservation_reported : Notes → ℕ → ℕ
reservation_reported noted = reservation_over noted.reservation
