-- The result of validating a message at the client, and the client afterwards (RFC 8489, sections 9.2.4 and
-- 9.2.5). The cases exclude each other, and each states its premises.
use Rattle.std.specs.Prelude.{◌≡◌, ◌⊎◌, ℕ, true, false, List, Option, Some, None}
use Rattle.stun_proto_auth.specs.Wire.declared.algorithm.IntegrityAlgorithm.{IntegrityAlgorithm}
use Rattle.stun_proto_auth.specs.Claims.{claimed}
use Rattle.stun_proto_client.specs.Challenges.{ChallengeFields, challenge_visible, is_anonymous_enough, is_listed_enough, list_for_choice}
use Rattle.stun_proto_client.specs.Choice.{HasNoneCommon, IsStrongest}
use Rattle.stun_proto_client.specs.Client.{Client, Standing, account_then, standing_key, standing_of}
use Rattle.stun_proto_client.specs.Digests.{IsRight, IsWrong}
use Rattle.stun_proto_client.specs.declared.error.LongTermClientAuthError.{LongTermClientAuthError}
use Rattle.stun_proto_client.specs.declared.error.LongTermClientAuthError.TheVariants.{Unauthorized, IntegrityFailed, UnsupportedFeature, NoMemory}
use Rattle.stun_proto_client.specs.declared.validation.LongTermClientValidation.{LongTermClientValidation}
use Rattle.stun_proto_client.specs.declared.validation.LongTermClientValidation.TheVariants.{ResendRequest, Validated}

-- The client can answer a challenge with this algorithm: it is the strongest common one; if anonymity is required,
-- the nonce announces it; and if the client is hardened, a list that the nonce announces is there.
pub record IsAnswerable (client : Client) (reported : ChallengeFields) (choice : IntegrityAlgorithm) : Type 0 where
  pub strongest : IsStrongest client.algorithms client.hardened (list_for_choice client.hardened reported) choice
  pub anonymous : is_anonymous_enough client.anonymous_username reported.nonce ≡ true
  pub listed : is_listed_enough client.hardened reported ≡ true

-- The client with a challenge and the chosen algorithm stored. Credentials that were set for the next challenge
-- are its credentials from then on.
abbrev pub keeping : Client → ChallengeFields → IntegrityAlgorithm → Client
keeping client reported choice = record client {
  account = account_then client;
  next_account = None;
  challenge = Some
      (record {
        realm = reported.realm;
        nonce = reported.nonce;
        offered = list_for_choice client.hardened reported;
        choice = choice;
      });
  integrity = Some choice;
}

-- The client with this algorithm recorded for its last validation, or with none.
abbrev pub going_by : Client → Option IntegrityAlgorithm → Client
going_by client algorithm = record client { integrity = algorithm }

-- ---- a challenge

-- The challenge is stored with the chosen algorithm, and the request is to be sent again.
pub record IsResent (old : Client) (bytes : List ℕ) (choice : IntegrityAlgorithm) (new : Client) : Type 0 where
  pub reported : ChallengeFields
  pub visible : challenge_visible bytes ≡ Some reported
  pub answerable : IsAnswerable old reported choice
  pub stored : new ≡ keeping old reported choice

-- Why a challenge can't be answered: there is no common algorithm; or anonymity is required and not announced; or
-- the client is hardened, and a list is announced and not there.
abbrev pub IsUnanswerable : Client → ChallengeFields → Type 0
IsUnanswerable client reported =
    HasNoneCommon client.algorithms client.hardened (list_for_choice client.hardened reported)
    ⊎ ((is_anonymous_enough client.anonymous_username reported.nonce ≡ false)
    ⊎ (is_listed_enough client.hardened reported ≡ false))

-- The challenge can't be answered, and nothing changes.
pub record IsUnsupported (old : Client) (bytes : List ℕ) (new : Client) : Type 0 where
  pub reported : ChallengeFields
  pub visible : challenge_visible bytes ≡ Some reported
  pub unanswerable : IsUnanswerable old reported
  pub unchanged : new ≡ old

-- The challenge can be answered, but an allocation to store it fails, and nothing changes.
pub record WantsMemory (old : Client) (bytes : List ℕ) (new : Client) : Type 0 where
  pub reported : ChallengeFields
  pub visible : challenge_visible bytes ≡ Some reported
  pub choice : IntegrityAlgorithm
  pub answerable : IsAnswerable old reported choice
  pub unchanged : new ≡ old

-- ---- any other message

-- The message is not a challenge, and validates under the client's key with the chosen algorithm.
pub record IsValidated (old : Client) (bytes : List ℕ) (algorithm : IntegrityAlgorithm) (new : Client) : Type 0 where
  pub no_challenge : challenge_visible bytes ≡ None
  pub standing : Standing
  pub occurs : standing_of old ≡ Some standing
  pub chosen : algorithm ≡ standing.challenge.choice
  pub right : IsRight bytes (standing_key standing)
  pub stored : new ≡ going_by old (Some algorithm)

-- The message is not a challenge. It has no integrity attribute, or the client has no credentials or no
-- stored challenge.
pub record IsUnauthorized (old : Client) (bytes : List ℕ) (new : Client) : Type 0 where
  pub no_challenge : challenge_visible bytes ≡ None
  pub cause : ((claimed bytes).integrity ≡ None) ⊎ (standing_of old ≡ None)
  pub stored : new ≡ going_by old None

-- The message is not a challenge. Its last integrity attribute, of this algorithm, is not of the chosen
-- algorithm or is wrong.
pub record IsForged (old : Client) (bytes : List ℕ) (algorithm : IntegrityAlgorithm) (new : Client) : Type 0 where
  pub no_challenge : challenge_visible bytes ≡ None
  pub last : (claimed bytes).integrity ≡ Some algorithm
  pub standing : Standing
  pub occurs : standing_of old ≡ Some standing
  pub wrong : IsWrong bytes (standing_key standing)
  pub stored : new ≡ going_by old (Some standing.challenge.choice)

-- ---- the result

-- The client accepts a message.
abbrev pub IsTaken : Client → List ℕ → LongTermClientValidation → Client → Type 0
IsTaken old bytes (ResendRequest choice) new = IsResent old bytes choice new
IsTaken old bytes (Validated algorithm) new = IsValidated old bytes algorithm new

-- The client refuses a message.
abbrev pub IsRejected : Client → List ℕ → LongTermClientAuthError → Client → Type 0
IsRejected old bytes Unauthorized new = IsUnauthorized old bytes new
IsRejected old bytes (IntegrityFailed algorithm) new = IsForged old bytes algorithm new
IsRejected old bytes UnsupportedFeature new = IsUnsupported old bytes new
IsRejected old bytes NoMemory new = WantsMemory old bytes new
