-- What C gets of received and sent bytes.
use Rattle.std.specs.Prelude.{◌≡◌, ◌≢◌, ◌++◌, ℕ, ℤ, nat_lt, true, false, is_none, List, [], length, drop, Option, Some, None, Result, Ok, Err, IfOk, OnErr, if◌then◌else◌, option_map}
use Rattle.std.specs.Borrow.{Bor}
use Rattle.stun_types_base.specs.Data.{data_bytes}
use Rattle.stun_types_base.specs.declared.data.Data.{Data}
use Rattle.stun_types_base.specs.declared.transmit.Transmit.{Transmit}
use Rattle.stun_types_base.specs.declared.transport.TransportType.{TransportType}
use Rattle.std.specs.declared.net.socket_addr.SocketAddr.{SocketAddr}
use Rattle.turn_client_proto_api.specs.Payloads.{PeerPayload}
use Rattle.turn_client_proto_api.specs.declared.answer.TurnRecvRet.{TurnRecvRet}
use Rattle.turn_client_proto_api.specs.declared.answer.TurnRecvRet.TheVariants.{Handled, Ignored, NoMemory, PeerData, PeerIcmp}
use Rattle.turn_client_proto_api.specs.declared.error.SendError.{SendError}
use Rattle.turn_client_proto_api.specs.declared.error.SendError.TheVariants as sending
use Rattle.turn_client_proto.specs.Clients.{stored_of}
use Rattle.turn_client_proto.specs.Timers.Drawing.{HasToSend, IsTransmitted}
use Rattle.turn_client_proto_api.specs.Sent.{Sent, sent_of}
use Rattle.turn_client_proto.specs.Core.Ending.{HasFailed}
use Rattle.turn_client_proto.specs.Recv.Receipts.{IsReceived, IsWaitingGiven, IsWaitingLost}
use Rattle.turn_client_proto.specs.PayloadPart.Sending.{IsSendAnswered}
use Rattle.stun_types_wire.specs.Registry.{greatest_size}
use Rattle.turn_client_proto.specs.Recv.ClientState.{ClientState, Leaves}
use Rattle.turn_client_c_calls.specs.Calls.{OnCore, OnStored}
use Rattle.turn_client_c_calls.specs.Codes as code
use Rattle.turn_client_c_types.specs.Reported.{reported_payload, reported_report, reported_way}
use Rattle.turn_client_c_types.specs.declared.reported.TurnPayload.{TurnPayload}
use Rattle.turn_client_c_types.specs.declared.reported.TurnTransmit.{TurnTransmit}
use Rattle.turn_client_c_calls.specs.declared.whole.HandleState.{HandleState}

-- An allocation failed.
abbrev pub Refused : Type 0
Refused = Unit {0}

-- ---- what a call writes to the head of a buffer

-- The buffer with these bytes at its start if they fit, and otherwise unchanged.
abbrev pub written : List ℕ → List ℕ → List ℕ
written bytes out = if nat_lt (length out) (length bytes) then out else bytes ++ drop (length bytes) out

-- ---- what comes

-- The start of data in the received bytes; 0 if the data is not in them.
abbrev pub start_of : Option (ℕ × ℕ) → ℕ
start_of None = 0
start_of (Some index) = index.0

-- Data of a peer: its position in the received bytes, or that it is to be read.
abbrev pub payload_reported : PeerPayload → TurnPayload
payload_reported given = reported_payload (start_of given.index) (length given.payload) (is_none given.index)
    given.transport given.peer

-- The joined bytes, which are to be read; none if the data is in the received bytes.
abbrev pub joined_by : PeerPayload → List ℕ
joined_by given = if is_none given.index then given.payload else []

abbrev pub recv_status : {T : Type 0} → TurnRecvRet T → ℤ
recv_status Handled = code.ok
recv_status (Ignored came) = code.ignored
recv_status (PeerData given) = code.payload
recv_status (PeerIcmp transport peer kind number details) = code.icmp
recv_status (NoMemory came) = code.no_memory

abbrev pub recv_reported : {T : Type 0} → TurnPayload → TurnRecvRet T → TurnPayload
recv_reported before (PeerData given) = payload_reported given
recv_reported before (PeerIcmp transport peer kind number details) = reported_report transport peer kind number details
recv_reported before _ = before

abbrev pub recv_joined : {T : Type 0} → TurnRecvRet T → List ℕ
recv_joined (PeerData given) = joined_by given
recv_joined _ = []

-- Bytes that were received over the client's transport, with the addresses from and to which they were sent.
abbrev pub brought : HandleState → Bor (List ℕ) → (from to : SocketAddr) → Transmit (Bor (List ℕ))
brought whole bytes from to = record {
  bytes = bytes;
  transport = (stored_of whole.client).core.agent.transport;
  from = from;
  to = to;
}

-- `recv`, reported by a status and what is written. While joined bytes are unread, nothing is handled.
pub data IsFed (bytes : Bor (List ℕ)) (from to : SocketAddr) (now : ℕ) (status : ℤ) (before reported : TurnPayload)
    (old new : HandleState) : Type 0 where
  Waits : old.joined.items ≢ [] → status ≡ code.unread → new ≡ old
      → IsFed bytes from to now status before reported old new
  Fed : old.joined.items ≡ [] → (answer : TurnRecvRet (Bor (List ℕ)))
      → IsReceived (λ (b : Bor (List ℕ)). b.now) (stored_of old.client) (brought old bytes from to) now answer
      (stored_of new.client)
      → status ≡ recv_status answer → reported ≡ recv_reported before answer → new.joined.items ≡ recv_joined answer
      → IsFed bytes from to now status before reported old new

-- ---- what waits

abbrev pub pull_status : {E : Type 0} → Result (Option PeerPayload) E → ℤ
pull_status (Ok (Some given)) = code.payload
pull_status (Ok None) = code.nothing
pull_status (Err x) = code.no_memory

abbrev pub pull_reported : {E : Type 0} → TurnPayload → Result (Option PeerPayload) E → TurnPayload
pull_reported before (Ok (Some given)) = payload_reported given
pull_reported before (Ok None) = before
pull_reported before (Err x) = before

abbrev pub pull_joined : {E : Type 0} → Result (Option PeerPayload) E → List ℕ
pull_joined (Ok (Some given)) = given.payload
pull_joined (Ok None) = []
pull_joined (Err x) = []

-- `poll_recv`, reported by a status and what is written. Its data is never in received bytes.
pub data IsPulledReported (now : ℕ) (status : ℤ) (before reported : TurnPayload) (old new : HandleState) : Type 0 where
  Waits : old.joined.items ≢ [] → status ≡ code.unread → new ≡ old → IsPulledReported now status before reported old new
  Pulled : old.joined.items ≡ [] → (answer : Result (Option PeerPayload) Refused)
      → IfOk answer (λ given. IsWaitingGiven (stored_of old.client) now given (stored_of new.client))
      → OnErr answer (IsWaitingLost (stored_of old.client) now (stored_of new.client))
      → status ≡ pull_status answer → reported ≡ pull_reported before answer → new.joined.items ≡ pull_joined answer
      → IsPulledReported now status before reported old new

-- Joined bytes are copied, and then there are none. If there are none, or they do not fit, nothing changes.
pub record IsReadReported (status : ℤ) (out copied : List ℕ) (old new : HandleState) : Type 0 where
  pub client : new.client ≡ old.client
  pub none : old.joined.items ≡ [] → (status ≡ code.nothing) × (new ≡ old) × (copied ≡ out)
  pub small : old.joined.items ≢ [] → nat_lt (length out) (length old.joined.items) ≡ true
      → (status ≡ code.small_buffer) × (new ≡ old) × (copied ≡ out)
  pub read : old.joined.items ≢ [] → nat_lt (length out) (length old.joined.items) ≡ false
      → (status ≡ code.ok) × (new.joined.items ≡ []) × (copied ≡ written old.joined.items out)

-- ---- what is sent

-- A buffer of this size has room for any message (RFC 8489, section 5).
abbrev pub message_room : ℕ
message_room = greatest_size

-- The most bytes that a message adds to its payload. A SEND indication's header, an IPv6 address, and DATA's
-- header and padding take 51.
abbrev pub send_extra : ℕ
send_extra = 64

-- The status for a transmitted message and a buffer of this size. No message is larger than the buffer has to
-- be.
abbrev pub draw_status : {E : Type 0} → ℕ → Result (Option (Transmit Data)) E → ℤ
draw_status room (Ok (Some t)) = if nat_lt room (length (data_bytes t.bytes)) then code.too_large else code.ok
draw_status room (Ok None) = code.nothing
draw_status room (Err x) = code.no_memory

abbrev pub draw_written : {E : Type 0} → List ℕ → Result (Option (Transmit Data)) E → List ℕ
draw_written out (Ok (Some t)) = written (data_bytes t.bytes) out
draw_written out (Ok None) = out
draw_written out (Err x) = out

abbrev pub draw_reported : {E : Type 0} → TurnTransmit → Result (Option (Transmit Data)) E → TurnTransmit
draw_reported before (Ok (Some t)) = reported_way (length (data_bytes t.bytes)) t.transport t.from t.to
draw_reported before (Ok None) = before
draw_reported before (Err x) = before

-- `poll_transmit`, reported by a status and what is written.
pub record IsTransmittedReported (now : ℕ) (status : ℤ) (out filled : List ℕ) (before reported : TurnTransmit) (old new : HandleState)
    : Type 0 where
  pub answer : Result (Option (Transmit Data)) Refused
  pub transmitted : OnCore (λ old new. IfOk answer (λ sent. IsTransmitted old now (option_map sent_of sent) new)) old new
  pub failed : OnErr answer (OnCore HasFailed old new)
  pub has_to_send : OnErr answer (HasToSend (stored_of old.client).core now)
  pub status_is : status ≡ draw_status (length out) answer
  pub filled_is : filled ≡ draw_written out answer
  pub reported_is : reported ≡ draw_reported before answer

abbrev pub send_status : ℕ → Result (Option Sent) SendError → ℤ
send_status room (Ok (Some sent)) = if nat_lt room (length sent.bytes) then code.small_buffer else code.ok
send_status room (Ok None) = code.nothing
send_status room (Err sending.NoAllocation) = code.no_allocation
send_status room (Err sending.NoPermission) = code.no_permission
send_status room (Err sending.NoTcpSocket) = code.no_socket
send_status room (Err sending.TooLarge) = code.too_large
send_status room (Err sending.NoMemory) = code.no_memory

abbrev pub send_written : List ℕ → Result (Option Sent) SendError → List ℕ
send_written out (Ok (Some sent)) = written sent.bytes out
send_written out (Ok None) = out
send_written out (Err error) = out

abbrev pub send_reported : TurnTransmit → Result (Option Sent) SendError → TurnTransmit
send_reported before (Ok (Some sent)) = reported_way (length sent.bytes) sent.transport sent.from sent.to
send_reported before (Ok None) = before
send_reported before (Err error) = before

-- `send_to`, reported by a status and what is written, over the client's state.
pub record IsCarried (by : TransportType) (to : SocketAddr) (bytes : List ℕ) (now : ℕ) (status : ℤ)
    (out filled : List ℕ) (before reported : TurnTransmit) (old new : ClientState) : Type 0 where
  pub answer : Result (Option Sent) SendError
  pub answered : Leaves (λ old new. IsSendAnswered old by to bytes now answer new) old new
  pub status_is : status ≡ send_status (length out) answer
  pub filled_is : filled ≡ send_written out answer
  pub reported_is : reported ≡ send_reported before answer

abbrev pub IsSendReported : TransportType → SocketAddr → List ℕ → ℕ → ℤ → (out filled : List ℕ)
    → (before reported : TurnTransmit) → (old new : HandleState) → Type 0
IsSendReported by to bytes now status out filled before reported =
    OnStored (IsCarried by to bytes now status out filled before reported)
