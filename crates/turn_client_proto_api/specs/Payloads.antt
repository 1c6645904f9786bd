-- The payload of a peer, and its position in the received bytes.
use Rattle.std.specs.Prelude.{ℕ, List, Option, Some, None, take, drop}
use Rattle.std.specs.declared.net.socket_addr.SocketAddr.{SocketAddr}
use Rattle.stun_types_base.specs.declared.transport.TransportType.{TransportType}
use Rattle.turn_client_proto_api.specs.declared.data.DataRangeOrOwned.{DataRangeOrOwned}
use Rattle.turn_client_proto_api.specs.declared.data.DataRangeOrOwned.TheVariants.{Range, Owned}

-- The bytes from one index up to another, as far as they exist.
abbrev pub part_of : List ℕ → ℕ → ℕ → List ℕ
part_of bytes start end = drop start (take end bytes)

-- The bytes of a range of an owner's bytes, or the owned bytes.
abbrev pub held_bytes : {T : Type 0} → (T → List ℕ) → DataRangeOrOwned T → List ℕ
held_bytes items (Range bytes range) = part_of (items bytes) range.start range.end
held_bytes items (Owned bytes) = bytes.items

-- The start and the end of the range in the owner's bytes; `None` for owned bytes.
abbrev pub held_index : {T : Type 0} → DataRangeOrOwned T → Option (ℕ × ℕ)
held_index (Range _ range) = Some (range.start, range.end)
held_index (Owned _) = None

-- A peer's payload; its start and end in the received bytes, unless its bytes are owned; the transport
-- between the server and the peer; and the peer.
pub record PeerPayload : Type 0 where
  pub payload : List ℕ
  pub index : Option (ℕ × ℕ)
  pub transport : TransportType
  pub peer : SocketAddr
