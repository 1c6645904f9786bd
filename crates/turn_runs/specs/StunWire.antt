-- The meaning of STUN and TURN bytes in the terms of a run (RFC 8489, sections 5, 9.2.2 and 14.5; RFC 8656,
-- section 18).
use Rattle.std.specs.Prelude.{ℕ, ◌*◌, ◌==◌, List, Option, Some, None, if◌then◌else◌}
use Rattle.std.specs.Option.{option_and_then, option_map}
use Rattle.rand_core.specs.Stream.{Stream}
use Rattle.turn_types_frame.specs.StunTypesWire.Attributes.{kind_at}
use Rattle.stun_proto_client.specs.StunTypesIntegrity.Credentials.{NameAndPassword, long_term_key}
use Rattle.turn_types_frame.specs.StunTypesWire.Generated.{generated_id, number_words}
use Rattle.turn_types_frame.specs.StunTypesBase.GeneratorWords.{stream_after}
use Rattle.turn_types_frame.specs.StunTypesWire.Grammar.{IsMessage, number_at, refusal}
use Rattle.turn_types_frame.specs.StunTypesWire.Headers.{AreBytes}
use Rattle.stun_proto_client.specs.StunTypesIntegrity.Integrity.{IsSigned, Validates}
use Rattle.turn_types_frame.specs.StunTypesWire.declared.algorithm.IntegrityAlgorithm.{IntegrityAlgorithm}
use Rattle.stun_proto_client.specs.StunTypesMessage.Same.{ShowSame}
use Rattle.turn_types_frame.specs.StunTypesWire.Types.{class_of, method_of}
use Rattle.turn_types_frame.specs.StunTypesBase.declared.transport.TransportType.{TransportType}
use Rattle.turn_types_frame.specs.StunTypesBase.declared.transport.TransportType.TheVariants.{Udp, Tcp}
use Rattle.stun_proto_client.specs.Challenges.{ChallengeFields, challenge_visible}
use Rattle.turn_runs.specs.Messages.{Message}
use Rattle.turn_runs.specs.Words.{Wire}
use Rattle.turn_runs.specs.Indications.{Carries}
use Rattle.turn_types_frame.specs.Attributes.TurnRegistry.{channel_number_kind, connection_id_kind, lifetime_kind, requested_transport_kind, tcp_protocol, udp_protocol, xor_peer_address_kind, xor_relayed_address_kind}
use Rattle.turn_types_frame.specs.Peer.TurnShows.{addresses_visible, number_visible, unless_refused}

-- The transport with this protocol number, if it is UDP or TCP.
abbrev pub protocol_transport : ℕ → Option TransportType
protocol_transport protocol = if protocol == udp_protocol then Some Udp
    else if protocol == tcp_protocol then Some Tcp
    else None

-- What a message shows of allocations, permissions, channels and connections.
abbrev pub decoded_by : List ℕ → Message
decoded_by bytes = record {
  class = class_of (kind_at bytes);
  method = method_of (kind_at bytes);
  number = number_at bytes;
  transport = option_and_then protocol_transport (number_visible 1 requested_transport_kind bytes);
  relayed = addresses_visible xor_relayed_address_kind bytes;
  lifetime = number_visible 4 lifetime_kind bytes;
  peers = addresses_visible xor_peer_address_kind bytes;
  channel = number_visible 2 channel_number_kind bytes;
  connection = number_visible 4 connection_id_kind bytes;
}

-- The key of an account in a realm, for an algorithm.
abbrev pub key_in : NameAndPassword → List ℕ → IntegrityAlgorithm → List ℕ
key_in account realm algorithm =
    (long_term_key (record { username = account.username; password = account.password; realm = realm }) algorithm).bytes

-- Both are messages that show the same, except for a FINGERPRINT.
pub record AreSame (one other : List ℕ) : Type 0 where
  pub first : IsMessage one
  pub second : IsMessage other
  pub show_same : ShowSame one other

-- The bytes validate under the key, by the algorithm, over the text.
pub record AreValid (bytes key : List ℕ) (algorithm : IntegrityAlgorithm) (text : List ℕ) : Type 0 where
  pub are_bytes : AreBytes bytes
  pub validates : Validates bytes key algorithm text

-- The bytes have a visible integrity attribute of the algorithm, which covers the text.
pub record Cover (bytes : List ℕ) (algorithm : IntegrityAlgorithm) (text : List ℕ) : Type 0 where
  pub key : List ℕ
  pub signed : IsSigned bytes key algorithm text

-- The bytes of STUN. The transaction IDs of a client are those that its generator generates from three words
-- each.
abbrev pub stun_wire : Wire
stun_wire = record {
  Account = NameAndPassword;
  Seed = Stream;
  visible = λ bytes. unless_refused (refusal bytes) (Some (decoded_by bytes));
  Validates = AreValid;
  Covers = Cover;
  ShowsSame = AreSame;
  Carries = Carries;
  reported_realm = λ bytes. option_map (λ (t : ChallengeFields). t.realm) (challenge_visible bytes);
  key = key_in;
  number = λ seed index. generated_id (stream_after (number_words * index) seed);
}
