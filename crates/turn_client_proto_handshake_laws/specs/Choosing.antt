-- How a client answers a challenge: by a signed ALLOCATE (RFC 8489, sections 9.2.3 and 9.2.5; RFC 8656,
-- section 7.1).
use Rattle.std.specs.Prelude.{◌≡◌, ◌≢◌, ◌<◌, ◌^◌, ℕ, List, true, None, Some}
use Rattle.turn_client_proto_api.specs.StunTypesWire.Grammar.{number_at, refusal}
use Rattle.turn_client_proto_api.specs.StunTypesWire.declared.algorithm.IntegrityAlgorithm.{IntegrityAlgorithm}
use Rattle.turn_client_proto_messages.specs.StunTypesWrite.ValueReading.{utf8_refusal}
use Rattle.turn_client_proto_messages.specs.StunProtoClient.Challenges.{ChallengeFields, challenge_visible, list_for_choice}
use Rattle.turn_client_proto_api.specs.StunProtoAuth.Claims.{claimed}
use Rattle.turn_client_proto_messages.specs.StunProtoClient.Client.{Client, Standing, standing_key}
use Rattle.turn_client_proto_messages.specs.StunProtoClient.ClientValidation.{IsAnswerable, IsUnanswerable, keeping}
use Rattle.turn_client_proto_messages.specs.StunProtoClient.Digests.{IsRight}
use Rattle.turn_client_proto_api.specs.StunProtoAgent.Sending.{is_request}
use Rattle.turn_client_proto_api.specs.Config.{Config}
use Rattle.turn_client_proto_messages.specs.Judging.{signer_of}
use Rattle.turn_client_proto_messages.specs.OwnClaims.{own_claim}
use Rattle.turn_client_proto_messages.specs.Requests.{request_text}
use Rattle.turn_client_proto_messages.specs.ReportedRequests.{reported_request}
use Rattle.turn_client_proto_messages.specs.declared.request.TurnRequest.{TurnRequest}
use Rattle.turn_client_proto_messages.specs.declared.request.TurnRequest.TheVariants.{Allocate}
use Rattle.turn_client_proto_messages.specs.TurnRuns.StunWire.{decoded_by}
use Rattle.turn_client_proto_handshake_laws.specs.Requested.{Requested, sent_of}
use Rattle.turn_client_proto_api.specs.Sent.{Sent}
use Rattle.turn_client_proto_handshake_laws.specs.Sent.{Beginning, first_number}

-- The message is this challenge, and answers the first request.
pub record IsChallenge (b : Beginning) (reported : ChallengeFields) (bytes : List ℕ) : Type 0 where
  pub visible : challenge_visible bytes ≡ Some reported
  pub number : number_at bytes ≡ first_number b

-- The challenge is answered by this algorithm: it is the strongest one that the challenge offers and the
-- settings allow; the username is hidden if that is required; and for a hardened client the list is there that the
-- challenge announces.
abbrev pub IsAnsweredBy : Config → ChallengeFields → IntegrityAlgorithm → Type 0
IsAnsweredBy config reported choice = IsAnswerable (signer_of config) reported choice

-- The challenge can't be answered: it offers no algorithm that the settings allow; or the settings require a hidden
-- username, which the challenge doesn't offer; or the client is hardened, and a list that the challenge announces is
-- missing.
abbrev pub IsBarring : Config → ChallengeFields → Type 0
IsBarring config reported = IsUnanswerable (signer_of config) reported

-- What a client has chosen: the challenge that it answers, the algorithm, and the transaction ID and the time
-- of the signed request.
pub record Choice : Type 0 where
  pub reported : ChallengeFields
  pub algorithm : IntegrityAlgorithm
  pub number : ℕ
  pub made : ℕ

-- Its authenticator afterwards, which stores the challenge.
abbrev pub signer_by : Beginning → Choice → Client
signer_by b c = keeping (signer_of b.config) c.reported c.algorithm

-- Its credentials, and the challenge under which it uses them.
abbrev pub standing_by : Beginning → Choice → Standing
standing_by b c = record {
  account = b.config.credentials;
  challenge = record {
    realm = c.reported.realm;
    nonce = c.reported.nonce;
    offered = list_for_choice b.config.hardened c.reported;
    choice = c.algorithm;
  };
}

-- The signed ALLOCATE.
abbrev pub allocate_of : Beginning → TurnRequest
allocate_of b = Allocate b.config.transport b.config.families b.config.options

abbrev pub signed_request : Beginning → Choice → List ℕ
signed_request b c = request_text (signer_by b c) (allocate_of b) c.number

abbrev pub signed_requested : Beginning → Choice → Requested
signed_requested b c = record { number = c.number; bytes = signed_request b c; made = c.made }

abbrev pub signed_sent : Beginning → Choice → Sent
signed_sent b c = sent_of b (signed_requested b c)

-- The choice answers a challenge that some message contained, by a request with a transaction ID of its own.
pub record IsChoice (b : Beginning) (c : Choice) : Type 0 where
  pub message : List ℕ
  pub visible : challenge_visible message ≡ Some c.reported
  pub answered : IsAnsweredBy b.config c.reported c.algorithm
  pub fits : c.number < 2 ^ 96
  pub new : c.number ≢ first_number b

-- The name of the user is valid UTF-8.
abbrev pub HasTextName : Config → Type 0
HasTextName config = utf8_refusal config.credentials.username ≡ None

-- What the signed request is: a message and a request with its transaction ID, which asks for an allocation.
-- It validates under the key of the credentials in the realm of the challenge, and claims what the challenge
-- asks for.
pub record IsSignedAllocate (b : Beginning) (c : Choice) : Type 0 where
  pub message : refusal (signed_request b c) ≡ None
  pub request : is_request (signed_request b c) ≡ true
  pub number : number_at (signed_request b c) ≡ c.number
  pub reported : decoded_by (signed_request b c) ≡ reported_request (allocate_of b) c.number
  pub valid : IsRight (signed_request b c) (standing_key (standing_by b c))
  pub claims : claimed (signed_request b c) ≡ own_claim b.config.anonymous_username (standing_by b c)
