-- The attributes of a request are ordinary and short.
use Rattle.std.proofs.Common.{ℕ, ◌≤◌, Bool, List, [], ◌∷◌, length, refl, arith}
use Rattle.byteorder.specs.Endian.{big_bytes}
use Rattle.stun_types_write.specs.Adding.{attr_of}
use Rattle.stun_types_attributes.specs.Xor.{octets_mask, xor_bytes, xored}
use Rattle.stun_types_base.specs.declared.family.AddressFamily.{AddressFamily}
use Rattle.turn_types_attributes.specs.EvenPorts.{even_port_value}
use Rattle.turn_types_attributes.specs.FamilyValues.{family_value}
use Rattle.turn_types_attributes.specs.Transports.{transport_value}
use Rattle.turn_types_peer.specs.PeerValues.{channel_value}
use Rattle.turn_types_attributes.specs.TurnRegistry.{additional_address_family_kind, channel_number_kind, connection_id_kind, dont_fragment_kind, even_port_kind, lifetime_kind, requested_address_family_kind, requested_transport_kind, reservation_token_kind, xor_peer_address_kind}
use Rattle.turn_client_proto_messages.specs.Composing.{IsSmall}

-- An xored value is no longer than its mask.
xor_short : (bytes mask : List ℕ) → length (xor_bytes bytes mask) ≤ length mask
xor_short [] mask = omega arith
xor_short (b ∷ bytes) [] = omega arith
xor_short (b ∷ bytes) (m ∷ mask) = let shorter = xor_short bytes mask in omega (arith, shorter)

-- An xored address has at most twenty bytes.
pub xored_short : (number : ℕ) (value : List ℕ) → length (xored number value) ≤ 20
unfolding octets_mask
xored_short number value = let short = xor_short value (0 ∷ 0 ∷ 0x21 ∷ 0x12 ∷ octets_mask number) in omega (arith, short)

pub lifetime_small : (seconds : ℕ) → IsSmall (attr_of lifetime_kind (big_bytes 4 seconds))
lifetime_small seconds = record {
  ordinary = record { fits = record { kind = omega arith; value = omega arith }; ordinary = refl };
  short = omega arith;
}

pub connection_small : (connection : ℕ) → IsSmall (attr_of connection_id_kind (big_bytes 4 connection))
connection_small connection = record {
  ordinary = record { fits = record { kind = omega arith; value = omega arith }; ordinary = refl };
  short = omega arith;
}

pub transport_small : (protocol : ℕ) → IsSmall (attr_of requested_transport_kind (transport_value protocol))
transport_small protocol = record {
  ordinary = record { fits = record { kind = omega arith; value = omega arith }; ordinary = refl };
  short = omega arith;
}

pub dont_fragment_small : IsSmall (attr_of dont_fragment_kind [])
dont_fragment_small = record {
  ordinary = record { fits = record { kind = omega arith; value = omega arith }; ordinary = refl };
  short = omega arith;
}

pub even_port_small : (reserves : Bool) → IsSmall (attr_of even_port_kind (even_port_value reserves))
even_port_small reserves = record {
  ordinary = record { fits = record { kind = omega arith; value = omega arith }; ordinary = refl };
  short = omega arith;
}

pub reservation_small : (token : ℕ) → IsSmall (attr_of reservation_token_kind (big_bytes 8 token))
reservation_small token = record {
  ordinary = record { fits = record { kind = omega arith; value = omega arith }; ordinary = refl };
  short = omega arith;
}

pub requested_small : (family : AddressFamily) → IsSmall (attr_of requested_address_family_kind (family_value family))
requested_small family = record {
  ordinary = record { fits = record { kind = omega arith; value = omega arith }; ordinary = refl };
  short = omega arith;
}

pub additional_small : (family : AddressFamily) → IsSmall (attr_of additional_address_family_kind (family_value family))
additional_small family = record {
  ordinary = record { fits = record { kind = omega arith; value = omega arith }; ordinary = refl };
  short = omega arith;
}

pub channel_small : (channel : ℕ) → IsSmall (attr_of channel_number_kind (channel_value channel))
channel_small channel = record {
  ordinary = record { fits = record { kind = omega arith; value = omega arith }; ordinary = refl };
  short = omega arith;
}

pub peer_small : (number : ℕ) (value : List ℕ) → IsSmall (attr_of xor_peer_address_kind (xored number value))
peer_small number value =
    let short = xored_short number value in
    record {
      ordinary = record { fits = record { kind = omega arith; value = omega (arith, short) }; ordinary = refl };
      short = omega (arith, short);
    }
