-- Indications that carry data from a peer or for a peer (RFC 8656, sections 11.1 and 11.3).
use Rattle.std.specs.Prelude.{ℕ, List, [], ◌∷◌, ◌<◌, ◌≤◌, ◌^◌}
use Rattle.std.specs.declared.net.socket_addr.SocketAddr.{SocketAddr}
use Rattle.stun_types_add.specs.Write.Adding.{attr_of}
use Rattle.turn_types_peer.specs.TurnAttributes.StunTypesAttributes.Addresses.{address_value}
use Rattle.turn_types_peer.specs.Wire.Attributes.{Attr}
use Rattle.turn_types_peer.specs.Wire.declared.class.MessageClass.TheVariants.{Indication}
use Rattle.turn_types_peer.specs.Wire.Text.{message_text}
use Rattle.turn_types_peer.specs.Wire.Types.{type_of}
use Rattle.turn_types_peer.specs.TurnAttributes.StunTypesAttributes.Xor.{xored}
use Rattle.turn_types_peer.specs.TurnAttributes.TurnRegistry.{data_kind, most_payload, xor_peer_address_kind}

-- An indication with a method, a peer's address and data.
pub record Sent : Type 0 where
  pub method : ℕ
  pub peer : SocketAddr
  pub number : ℕ
  pub payload : List ℕ

-- XOR-PEER-ADDRESS of the peer.
abbrev pub peer_attribute : Sent → Attr
peer_attribute sent = attr_of xor_peer_address_kind (xored sent.number (address_value sent.peer))

-- DATA with the payload.
abbrev pub data_attribute : Sent → Attr
data_attribute sent = attr_of data_kind sent.payload

-- The encoding of the indication: XOR-PEER-ADDRESS and DATA.
abbrev pub indication_text : Sent → List ℕ
indication_text sent =
    message_text (type_of Indication sent.method) sent.number (peer_attribute sent ∷ data_attribute sent ∷ [])

-- The method has 12 bits, and the data fits into an indication.
pub record IsMethod (method len : ℕ) : Type 0 where
  pub short : method < 2 ^ 12
  pub room : len ≤ most_payload
