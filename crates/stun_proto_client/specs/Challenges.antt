-- What a client reads from a server's challenge (RFC 8489, sections 9.2.4 and 9.2.5).
use Rattle.std.specs.Prelude.{ℕ, ◌==◌, Bool, not, ◌&&◌, ◌||◌, true, false, if◌then◌else◌, List, Option, Some, None, is_none}
use Rattle.stun_proto_auth.specs.Wire.Attributes.{kind_at}
use Rattle.stun_proto_auth.specs.Wire.Types.{class_of}
use Rattle.stun_proto_auth.specs.Wire.declared.class.MessageClass.{MessageClass}
use Rattle.stun_proto_auth.specs.Wire.declared.class.MessageClass.TheVariants.{Request, Indication, Success, Error}
use Rattle.stun_proto_auth.specs.Wire.Registry.{stale_nonce_code, unauthorized_code}
use Rattle.stun_proto_auth.specs.Nonce.{features_in}
use Rattle.stun_proto_auth.specs.declared.feature.Feature.{Feature}
use Rattle.stun_proto_auth.specs.declared.feature.Feature.TheVariants.{Auto, Required, Disabled}
use Rattle.stun_proto_auth.specs.Claims.{Claimed, claimed, code_visible}

-- A challenge: realm, nonce and, if the nonce announces password algorithms and the list is present, the
-- PASSWORD-ALGORITHMS value: as `offered` if each algorithm in it is known, and as `listed` if some may be unknown.
pub record ChallengeFields : Type 0 where
  pub realm : List ℕ
  pub nonce : List ℕ
  pub offered : Option (List ℕ)
  pub listed : Option (List ℕ)

-- Whether a class is that of error responses.
abbrev pub is_error : MessageClass → Bool
is_error Request = false
is_error Indication = false
is_error Success = false
is_error Error = true

-- Whether a code is 401 or 438 (RFC 8489, section 14.8).
abbrev pub is_challenge_code : Option ℕ → Bool
is_challenge_code None = false
is_challenge_code (Some code) = code == unauthorized_code || code == stale_nonce_code

-- Whether a message is an error response with 401 or 438.
abbrev pub asks_again : List ℕ → Bool
asks_again bytes = is_error (class_of (kind_at bytes)) && is_challenge_code (code_visible bytes)

-- The list to choose from: none if the nonce does not announce password algorithms.
abbrev pub list_by : List ℕ → Option (List ℕ) → Option (List ℕ)
list_by nonce algorithms = if (features_in nonce).password_algorithms then algorithms else None

-- The challenge with a realm and a nonce, if both are present.
abbrev pub decoded_by : Option (List ℕ) → Option (List ℕ) → Option (List ℕ) → Option (List ℕ) → Option ChallengeFields
decoded_by (Some realm) (Some nonce) algorithms listed = Some (record {
  realm = realm;
  nonce = nonce;
  offered = list_by nonce algorithms;
  listed = list_by nonce listed;
})
decoded_by _ _ _ _ = None

-- The challenge in a claim.
abbrev pub reported_of : Claimed → Option ChallengeFields
reported_of claim = decoded_by claim.realm claim.nonce claim.algorithms claim.listed

-- The challenge in a message, if the message is one.
abbrev pub challenge_visible : List ℕ → Option ChallengeFields
challenge_visible bytes = if asks_again bytes then reported_of (claimed bytes) else None

-- Whether a nonce satisfies the client's setting for anonymity: if it is required, the nonce has to announce
-- it (RFC 8489, section 9.2.5).
abbrev pub is_anonymous_enough : Feature → List ℕ → Bool
is_anonymous_enough Auto nonce = true
is_anonymous_enough Required nonce = (features_in nonce).anonymous_username
is_anonymous_enough Disabled nonce = true

-- The list from which a client chooses an algorithm: a hardened client passes over unknown algorithms (RFC 8489,
-- section 9.2.5), and for any other a list that has one counts as absent.
abbrev pub list_for_choice : Bool → ChallengeFields → Option (List ℕ)
list_for_choice false reported = reported.offered
list_for_choice true reported = reported.listed

-- Whether the nonce announces password algorithms and there is no well-formed list of them, as where somebody on
-- the way has taken the list out (RFC 8489, section 9.2.1).
abbrev pub lacks_list : ChallengeFields → Bool
lacks_list reported = (features_in reported.nonce).password_algorithms && is_none reported.listed

-- Whether a challenge has the list that it announces. Only a hardened client wants it (RFC 8489, section 9.2.5).
abbrev pub is_listed_enough : Bool → ChallengeFields → Bool
is_listed_enough false reported = true
is_listed_enough true reported = not (lacks_list reported)
