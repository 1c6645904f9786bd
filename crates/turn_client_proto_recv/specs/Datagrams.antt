-- Handling of datagrams (RFC 8489, section 6.2.1; RFC 8656, sections 11.4, 11.6 and 12.6).
use Rattle.std.specs.Prelude.{◌≡◌, ℕ, Bool, true, false, List, Option, Some, None, MatchOption}
use Rattle.std.specs.declared.net.socket_addr.SocketAddr.{SocketAddr}
use Rattle.stun_types_wire.specs.Grammar.{refusal}
use Rattle.stun_types_wire.specs.declared.error.StunParseError.{StunParseError}
use Rattle.stun_types_base.specs.declared.transmit.Transmit.{Transmit}
use Rattle.stun_types_base.specs.declared.transport.TransportType.{TransportType}
use Rattle.turn_client_proto_api.specs.Payloads.{PeerPayload, part_of}
use Rattle.turn_client_proto_api.specs.declared.answer.TurnRecvRet.{TurnRecvRet}
use Rattle.turn_client_proto_api.specs.declared.answer.TurnRecvRet.TheVariants.{Handled, Ignored, NoMemory, PeerData, PeerIcmp}
use Rattle.turn_client_proto_core.specs.Ending.{HasFailed}
use Rattle.turn_client_proto_core.specs.Receiving.{IsProcessed, MayGrow}
use Rattle.turn_client_proto_core.specs.declared.protocol.Protocol.{Protocol}
use Rattle.turn_client_proto_payload.specs.Payloads.{payload_of}
use Rattle.turn_client_proto_payload.specs.declared.payload.Payload.{Payload}
use Rattle.turn_client_proto_payload.specs.declared.payload.Payload.TheVariants.{Data, Framed, Report}

-- The datagram came from the server to the client's own address, over the client's transport.
pub record IsOfServer {T : Type 0} (p : Protocol) (came : Transmit T) : Type 0 where
  pub transport : came.transport ≡ p.agent.transport
  pub from : came.from ≡ p.server
  pub to : came.to ≡ p.agent.here

-- ---- what is given

-- The received bytes from `start` to `end` as a payload from a peer, by position.
abbrev pub in_place : List ℕ → TransportType → SocketAddr → (start end : ℕ) → PeerPayload
in_place bytes transport peer start end =
    record { payload = part_of bytes start end; index = Some (start, end); transport = transport; peer = peer }

-- The result delivers this payload.
abbrev pub IsDelivered : {T : Type 0} → (T → List ℕ) → Transmit T → Payload → TurnRecvRet T → Type 0
IsDelivered items came (Data transport peer start end) answer =
    answer ≡ PeerData (in_place (items came.bytes) transport peer start end)
IsDelivered items came (Report transport peer report) answer =
    answer ≡ PeerIcmp transport peer report.icmp_type report.code report.details
IsDelivered items came (Framed number transport peer start end) answer =
    answer ≡ PeerData (in_place (items came.bytes) transport peer start end)

-- ---- what gives nothing

-- The result says whether the bytes were for the client.
abbrev pub IsHandledAs : {T : Type 0} → Transmit T → Bool → TurnRecvRet T → Type 0
IsHandledAs came true answer = answer ≡ Handled
IsHandledAs came false answer = answer ≡ Ignored came

-- The outcome of a message: it was handled; or handling it needed memory, a memory allocation failed, and the
-- client has failed.
pub data IsMessageTaken {T : Type 0} (old : Protocol) (bytes : List ℕ) (came : Transmit T) (now : ℕ)
    (answer : TurnRecvRet T) (new : Protocol) : Type 0 where
  Processed : (handled : Bool) → IsProcessed old bytes now handled new → IsHandledAs came handled answer
      → IsMessageTaken old bytes came now answer new
  Lost : answer ≡ NoMemory came → MayGrow old bytes → HasFailed old new → IsMessageTaken old bytes came now answer new

-- The bytes are given back, and nothing changes.
abbrev pub IsGivenBack : {T : Type 0} → Protocol → Transmit T → TurnRecvRet T → Protocol → Type 0
IsGivenBack old came answer new = (answer ≡ Ignored came) × (new ≡ old)

-- The outcome of bytes that deliver nothing, by whether they are a message.
abbrev pub IsRead : {T : Type 0} → Option StunParseError → Protocol → List ℕ → Transmit T → ℕ → TurnRecvRet T
    → Protocol → Type 0
IsRead None old bytes came now answer new = IsMessageTaken old bytes came now answer new
IsRead (Some error) old bytes came now answer new = IsGivenBack old came answer new

-- ---- a datagram

-- The outcome of a datagram from the server. If and only if it carries something from a peer that the client
-- permits, that is delivered, and nothing changes.
abbrev pub IsTaken : {T : Type 0} → (T → List ℕ) → Protocol → Transmit T → ℕ → TurnRecvRet T → Protocol → Type 0
IsTaken items old came now answer new = MatchOption (payload_of old (items came.bytes))
    (IsRead (refusal (items came.bytes)) old (items came.bytes) came now answer new)
    (λ payload. IsDelivered items came payload answer × (new ≡ old))

-- The outcome of a datagram. One that isn't from the server is given back.
pub data IsDatagramTaken {T : Type 0} (items : T → List ℕ) (old : Protocol) (came : Transmit T) (now : ℕ)
    (answer : TurnRecvRet T) (new : Protocol) : Type 0 where
  Own : IsOfServer old came → IsTaken items old came now answer new → IsDatagramTaken items old came now answer new
  Foreign : (IsOfServer old came → ⊥) → IsGivenBack old came answer new
      → IsDatagramTaken items old came now answer new
