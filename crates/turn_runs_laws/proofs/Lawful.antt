-- STUN's bytes meet `WireLaws`.
use Rattle.std.proofs.Common.{◌≡◌, ℕ, List, Option, Some, refl, ap}
use Rattle.std.specs.Option.{option_and_then}
use Rattle.std.specs.declared.net.socket_addr.SocketAddr.{SocketAddr}
use Rattle.turn_runs.specs.StunTypesWire.Attributes.{kind_at}
use Rattle.turn_runs.specs.StunTypesWire.Grammar.{number_at}
use Rattle.turn_types.specs.StunTypesMessage.Same.{ShowSame}
use Rattle.turn_runs.specs.StunTypesWire.Types.{class_of, method_of}
use Rattle.turn_types.proofs.StunTypesMessage.Covered.{fixes}
use Rattle.turn_types.specs.Attributes.TurnRegistry.{channel_number_kind, connection_id_kind, lifetime_kind, requested_transport_kind, xor_peer_address_kind, xor_relayed_address_kind}
use Rattle.turn_types.specs.Peer.TurnShows.{addresses_visible, number_visible}
use Rattle.turn_types.proofs.Decoded.{same_decoded}
use Rattle.turn_runs.specs.Messages.{Message}
use Rattle.turn_runs.specs.Words.{WireLaws}
use Rattle.turn_runs.specs.StunWire.{protocol_transport, stun_wire, decoded_by}

-- The message made of what its bytes show.
abbrev made : (kind number : ℕ) (protocol : Option ℕ) (relayed : List SocketAddr) (lifetime : Option ℕ) (peers : List SocketAddr) (channel connection : Option ℕ) → Message
made kind number protocol relayed lifetime peers channel connection = record {
  class = class_of kind;
  method = method_of kind;
  number = number;
  transport = option_and_then protocol_transport protocol;
  relayed = relayed;
  lifetime = lifetime;
  peers = peers;
  channel = channel;
  connection = connection;
}

made_same : (kind number : ℕ) (protocol : Option ℕ) (relayed : List SocketAddr) (lifetime : Option ℕ) (peers : List SocketAddr) (channel connection : Option ℕ)
    (kind2 number2 : ℕ) (protocol2 : Option ℕ) (relayed2 : List SocketAddr) (lifetime2 : Option ℕ) (peers2 : List SocketAddr) (channel2 connection2 : Option ℕ) →
    kind ≡ kind2 → number ≡ number2 → protocol ≡ protocol2 → relayed ≡ relayed2 → lifetime ≡ lifetime2 → peers ≡ peers2 → channel ≡ channel2 → connection ≡ connection2 →
    made kind number protocol relayed lifetime peers channel connection ≡ made kind2 number2 protocol2 relayed2 lifetime2 peers2 channel2 connection2
made_same kind number protocol relayed lifetime peers channel connection kind2 number2 protocol2 relayed2 lifetime2 peers2 channel2 connection2 a b c d e f g h =
    rw a (rw b (rw c (rw d (rw e (rw f (rw g (rw h refl)))))))

decoded_same : (one other : List ℕ) → ShowSame one other → decoded_by one ≡ decoded_by other
decoded_same one other same =
    let reported = same_decoded one other same in
    made_same (kind_at one) (number_at one) (number_visible 1 requested_transport_kind one) (addresses_visible xor_relayed_address_kind one) (number_visible 4 lifetime_kind one) (addresses_visible xor_peer_address_kind one) (number_visible 2 channel_number_kind one) (number_visible 4 connection_id_kind one)
    (kind_at other) (number_at other) (number_visible 1 requested_transport_kind other) (addresses_visible xor_relayed_address_kind other) (number_visible 4 lifetime_kind other) (addresses_visible xor_peer_address_kind other) (number_visible 2 channel_number_kind other) (number_visible 4 connection_id_kind other)
    same.kind same.number reported.transport reported.relayed reported.lifetime reported.peers reported.channel reported.connection

pub lawful : WireLaws stun_wire
lawful = record {
  fixed = λ one other key a text v w. record {
    first = v.validates.signed.message;
    second = w.validates.signed.message;
    show_same = fixes one other key a text v.are_bytes w.are_bytes v.validates w.validates;
  };
  same = λ one other s. rw s.first (rw s.second (ap Some (decoded_same one other s.show_same)));
}
