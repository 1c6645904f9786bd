-- Which peer a delivered payload is from, and where it lies in the received bytes.
use Rattle.std.specs.Prelude.{◌≡◌, ◌≤◌, ℕ, true, List, length, Some}
use Rattle.std.specs.Net.Socket.{socket_ip}
use Rattle.turn_client_proto_api.specs.Payloads.{part_of}
use Rattle.turn_client_proto_core.specs.Deleting.{is_authenticated}
use Rattle.turn_client_proto_core.specs.TurnRuns.Indications.{Carries}
use Rattle.turn_client_proto_core.specs.TurnRuns.Messages.{Payload as Given, FromChannel, FromPeer, Reported}
use Rattle.turn_client_proto_core.specs.declared.protocol.Protocol.{Protocol}
use Rattle.turn_client_proto_payload.specs.Payloads.{bound, permitted}
use Rattle.turn_client_proto_payload.specs.declared.payload.Payload.{Payload}
use Rattle.turn_client_proto_payload.specs.declared.payload.Payload.TheVariants.{Data, Framed, Report}

-- The payload in the terms of a run.
abbrev pub reported_of : List ℕ → Payload → Given
reported_of bytes (Data transport peer start end) = FromPeer transport peer (part_of bytes start end)
reported_of bytes (Report transport peer report) = Reported transport peer report
reported_of bytes (Framed number transport peer start end) = FromChannel number peer (part_of bytes start end)

-- The client permits the payload. For an indication: the server has allocated, the client has not ended, and
-- the first allocation with a permission for the peer's address has this transport. For a channel frame: the
-- first channel with its number is bound to the peer.
abbrev pub IsLetThrough : Protocol → Payload → Type 0
IsLetThrough p (Data transport peer start end) =
    (is_authenticated p.phase ≡ true) × (permitted (socket_ip peer) p.allocations ≡ Some transport)
IsLetThrough p (Report transport peer report) =
    (is_authenticated p.phase ≡ true) × (permitted (socket_ip peer) p.allocations ≡ Some transport)
IsLetThrough p (Framed number transport peer start end) = bound number p.allocations ≡ Some (transport, peer)

-- The end of the payload in the bytes.
abbrev pub end_of : Payload → ℕ
end_of (Data transport peer start end) = end
end_of (Report transport peer report) = 0
end_of (Framed number transport peer start end) = end

-- The payload is what the bytes carry, is from a peer that the client permits, and lies within the bytes.
pub record IsGiven (p : Protocol) (bytes : List ℕ) (payload : Payload) : Type 0 where
  pub carried : Carries bytes (reported_of bytes payload)
  pub let_through : IsLetThrough p payload
  pub within : end_of payload ≤ length bytes
