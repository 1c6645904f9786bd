-- When a server accepts a message as one of its user's, and why it rejects one (RFC 8489, section 9.2.4).
use Rattle.std.specs.Prelude.{◌≡◌, ℕ, Bool, ◌&&◌, ◌||◌, nat_eq, true, false, if◌then◌else◌, List, Option, Some, None, is_some, MatchOption}
use Rattle.std.specs.Cmp.Lexicographic.{pointwise}
use Rattle.std.specs.Option.{option_or}
use Rattle.stun_proto_auth.specs.Wire.declared.algorithm.IntegrityAlgorithm.{IntegrityAlgorithm}
use Rattle.stun_proto_auth.specs.Wire.Attributes.{kind_at}
use Rattle.stun_proto_auth.specs.Wire.Types.{class_of, is_response_class}
use Rattle.stun_proto_auth.specs.Integrity.Credentials.{Key, long_term_key}
use Rattle.stun_proto_auth.specs.Integrity.Integrity.{Validates}
use Rattle.stun_proto_verify.specs.declared.error.LongTermServerAuthError.{LongTermServerAuthError}
use Rattle.stun_proto_verify.specs.declared.error.LongTermServerAuthError.TheVariants.{Unauthorized, IntegrityFailed, BadRequest, StaleNonce}
use Rattle.stun_proto_auth.specs.Claims.{Claimed, claimed}
use Rattle.stun_proto_auth.specs.Nonce.{takes_anonymous_username}
use Rattle.stun_proto_auth.specs.declared.feature.Feature.{Feature}
use Rattle.stun_proto_verify.specs.Consistency.{AreConsistent, is_consistent}
use Rattle.stun_proto_verify.specs.Knowledge.{Knowledge, Named}

-- Whether a message is a response.
abbrev pub is_response : List ℕ → Bool
is_response bytes = is_response_class (class_of (kind_at bytes))

-- The bytes of a user's key in a realm, from name and password.
abbrev pub user_key : List ℕ → List ℕ → List ℕ → IntegrityAlgorithm → List ℕ
user_key realm name password algorithm = (long_term_key
    (record { username = name; password = password; realm = realm }) algorithm).bytes

-- That key, together with its algorithm.
abbrev pub full_key : List ℕ → List ℕ → List ℕ → IntegrityAlgorithm → Key
full_key realm name password algorithm =
    long_term_key (record { username = name; password = password; realm = realm }) algorithm

-- Whether a claim names a user, by name or, unless the server has disabled it, by the hash of the name.
abbrev pub names_user : Feature → Claimed → Bool
names_user anonymous_username claim =
    is_some claim.username || (takes_anonymous_username anonymous_username && is_some claim.user_hash)

-- The server accepts a message. It is not a response; its last integrity attribute is of this algorithm; it
-- has a realm, and the nonce that is valid for its address; it names a user that exists, by a hash only if
-- the server takes hashes; its password algorithms are consistent; and it validates under that user's key in
-- the server's realm.
pub record ServerAccepts (known : Knowledge) (bytes : List ℕ) (algorithm : IntegrityAlgorithm)
    (name : List ℕ) : Type 0 where
  pub no_response : is_response bytes ≡ false
  pub last : (claimed bytes).integrity ≡ Some algorithm
  pub named : names_user known.anonymous_username (claimed bytes) ≡ true
  pub realm : List ℕ
  pub has_realm : (claimed bytes).realm ≡ Some realm
  pub nonce : List ℕ
  pub has_nonce : (claimed bytes).nonce ≡ Some nonce
  pub occurs : known.nonce ≡ Some nonce
  pub consistent : AreConsistent known.algorithms (claimed bytes) algorithm
  pub password : List ℕ
  pub present : known.user ≡ Some (record { name = name; password = password })
  pub text : List ℕ
  pub validates : Validates bytes (user_key known.realm name password algorithm) algorithm text

-- The server accepts a message as that of some user, with some algorithm.
pub record IsAccepted (known : Knowledge) (bytes : List ℕ) : Type 0 where
  pub algorithm : IntegrityAlgorithm
  pub name : List ℕ
  pub accepts : ServerAccepts known bytes algorithm name

-- ---- the refusals, in their order

-- Rejects a response.
abbrev pub class_refusal : List ℕ → Option LongTermServerAuthError
class_refusal bytes = if is_response bytes then Some BadRequest else None

-- Rejects a message without an integrity attribute.
abbrev pub integrity_refusal : Option IntegrityAlgorithm → Option LongTermServerAuthError
integrity_refusal None = Some Unauthorized
integrity_refusal (Some algorithm) = None

-- Rejects a message that names no user, has no realm, or has no nonce.
abbrev pub parts_refusal : Feature → Claimed → Option LongTermServerAuthError
parts_refusal anonymous_username claim =
    if names_user anonymous_username claim && (is_some claim.realm && is_some claim.nonce) then None
    else Some BadRequest

-- Whether both texts are present and equal.
abbrev pub is_same_text : Option (List ℕ) → Option (List ℕ) → Bool
is_same_text (Some a) (Some b) = pointwise nat_eq a b
is_same_text _ _ = false

-- Rejects a nonce other than the valid one.
abbrev pub nonce_refusal : Option (List ℕ) → Option (List ℕ) → Option LongTermServerAuthError
nonce_refusal claim standing = if is_same_text claim standing then None else Some StaleNonce

-- Rejects inconsistent password algorithms.
abbrev pub algorithms_refusal : Claimed → List IntegrityAlgorithm → Option LongTermServerAuthError
algorithms_refusal claim algorithms = if is_consistent algorithms claim claim.integrity then None
    else Some BadRequest

-- Rejects an unknown user.
abbrev pub user_refusal : Option Named → Option LongTermServerAuthError
user_refusal (Some user) = None
user_refusal None = Some Unauthorized

-- The first error of a claim that is found without its user.
unfoldable pub unnamed_refusal : Knowledge → Claimed → Option LongTermServerAuthError
unnamed_refusal known claim =
    option_or (integrity_refusal claim.integrity) (option_or (parts_refusal known.anonymous_username claim)
    (option_or (nonce_refusal claim.nonce known.nonce) (algorithms_refusal claim known.algorithms)))

-- The first error of a claim, without regard to the digest.
unfoldable pub claim_refusal : Knowledge → Claimed → Option LongTermServerAuthError
claim_refusal known claim = option_or (unnamed_refusal known claim) (user_refusal known.user)

-- The first error of a message, without regard to its digest.
unfoldable pub judgement : Knowledge → List ℕ → Option LongTermServerAuthError
judgement known bytes = option_or (class_refusal bytes) (claim_refusal known (claimed bytes))

-- The digest is wrong under the user's key, for the algorithm of the last integrity attribute.
pub record HasWrongDigest (known : Knowledge) (bytes : List ℕ) (error : LongTermServerAuthError) : Type 0 where
  pub algorithm : IntegrityAlgorithm
  pub last : (claimed bytes).integrity ≡ Some algorithm
  pub is : error ≡ IntegrityFailed algorithm
  pub wrong : (user : Named) (text : List ℕ) → known.user ≡ Some user
      → ¬ Validates bytes (user_key known.realm user.name user.password algorithm) algorithm text

-- Why a server rejects a message: the first error or, if there is none, a wrong digest.
abbrev pub IsRefused : Knowledge → List ℕ → LongTermServerAuthError → Type 0
IsRefused known bytes error = MatchOption (judgement known bytes) (HasWrongDigest known bytes error)
    (λ cause. error ≡ cause)
