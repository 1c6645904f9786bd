-- What a server replies to a client's requests (RFC 8489, section 9.2.5; RFC 6062, section 4.3).
use Rattle.std.specs.Prelude.{◌≡◌, ℕ, List, Some}
use Rattle.turn_client_proto_messages.specs.StunTypesWire.declared.algorithm.IntegrityAlgorithm.{IntegrityAlgorithm}
use Rattle.turn_client_proto_messages.specs.StunTypesWire.Attributes.{kind_at}
use Rattle.turn_client_proto_messages.specs.StunTypesWire.Grammar.{number_at}
use Rattle.turn_client_proto_messages.specs.StunTypesWire.declared.class.MessageClass.TheVariants.{Success}
use Rattle.turn_client_proto_messages.specs.StunTypesWire.Types.{class_of, method_of}
use Rattle.turn_client_proto_messages.specs.StunProtoClient.Challenges.{ChallengeFields, challenge_visible, list_for_choice}
use Rattle.turn_client_proto_messages.specs.StunProtoClient.Client.{standing_key}
use Rattle.turn_client_proto_messages.specs.StunProtoClient.ClientValidation.{IsAnswerable, keeping}
use Rattle.turn_client_proto_messages.specs.StunProtoClient.Digests.{IsRight}
use Rattle.turn_client_proto_progress_laws.specs.Holders.{Holder}

-- The message is the success response to a request of this method and transaction ID, valid under the key of
-- the client's credentials.
pub record IsSuccessOf (h : Holder) (method transaction_id : ℕ) (bytes : List ℕ) : Type 0 where
  pub number_is : number_at bytes ≡ transaction_id
  pub success : class_of (kind_at bytes) ≡ Success
  pub method_is : method_of (kind_at bytes) ≡ method
  pub right : IsRight bytes (standing_key h.standing)

-- The message is this challenge, and answers the request of this method and transaction ID.
pub record IsChallengeOf (reported : ChallengeFields) (method transaction_id : ℕ) (bytes : List ℕ) : Type 0 where
  pub number_is : number_at bytes ≡ transaction_id
  pub method_is : method_of (kind_at bytes) ≡ method
  pub visible : challenge_visible bytes ≡ Some reported

-- The client can answer the challenge by this algorithm.
abbrev pub CanAnswer : Holder → ChallengeFields → IntegrityAlgorithm → Type 0
CanAnswer h reported choice = IsAnswerable h.auth reported choice

-- The client after it stored that challenge, to answer it by that algorithm.
abbrev pub challenged_by : Holder → ChallengeFields → IntegrityAlgorithm → Holder
challenged_by h reported choice = record {
  started = h.started;
  auth = keeping h.auth reported choice;
  standing = record {
    account = h.standing.account;
    challenge = record { realm = reported.realm; nonce = reported.nonce; offered = list_for_choice h.auth.hardened reported; choice = choice };
  };
  address = h.address;
  lifetime = h.lifetime;
  since = h.since;
}
