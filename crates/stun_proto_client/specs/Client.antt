-- What contracts see of a client's side of long-term authentication (RFC 8489, section 9.2).
use Rattle.std.specs.Prelude.{ℕ, Bool, false, List, Option, Some, None}
use Rattle.std.specs.Option.{option_map, option_or}
use Rattle.stun_proto_auth.specs.Wire.declared.algorithm.IntegrityAlgorithm.{IntegrityAlgorithm}
use Rattle.stun_proto_auth.specs.Integrity.Credentials.{Key, NameAndPassword, long_term_key}
use Rattle.stun_proto_auth.specs.declared.feature.Feature.{Feature}

-- A stored challenge: realm, nonce, the PASSWORD-ALGORITHMS value from which the choice was made, and the
-- chosen algorithm.
pub record Challenge : Type 0 where
  pub realm : List ℕ
  pub nonce : List ℕ
  pub offered : Option (List ℕ)
  pub choice : IntegrityAlgorithm

-- What the client's requests carry besides what they ask for and what authenticates them: the text of SOFTWARE,
-- if there is one, and whether FINGERPRINT ends them (RFC 8489, sections 14.14 and 14.7).
pub record Style : Type 0 where
  pub software : Option (List ℕ)
  pub fingerprint : Bool

-- Nothing besides.
abbrev pub plain_style : Style
plain_style = record { software = None; fingerprint = false }

-- A client: its credentials, those that replace them with the next challenge, the algorithms that it supports, its
-- setting for anonymity, whether it is hardened, what its requests carry besides, its stored challenge, and the
-- algorithm of its last validation.
pub record Client : Type 0 where
  pub account : Option NameAndPassword
  pub next_account : Option NameAndPassword
  pub algorithms : List IntegrityAlgorithm
  pub anonymous_username : Feature
  pub hardened : Bool
  pub style : Style
  pub challenge : Option Challenge
  pub integrity : Option IntegrityAlgorithm

-- The credentials that a challenge is answered with: those that were set to replace the others, if there are any.
abbrev pub account_then : Client → Option NameAndPassword
account_then client = option_or client.next_account client.account

-- Credentials, and the challenge for which they are used.
pub record Standing : Type 0 where
  pub account : NameAndPassword
  pub challenge : Challenge

-- The credentials and the challenge, if both exist. A client without credentials behaves as if it had no
-- challenge.
abbrev pub standing_by : Option NameAndPassword → Option Challenge → Option Standing
standing_by (Some account) (Some challenge) = Some (record { account = account; challenge = challenge })
standing_by _ _ = None

abbrev pub standing_of : Client → Option Standing
standing_of client = standing_by client.account client.challenge

-- The key of the credentials in a realm, for an algorithm (RFC 8489, section 9.2.2).
abbrev pub account_key : NameAndPassword → List ℕ → IntegrityAlgorithm → Key
account_key account realm algorithm =
    long_term_key (record { username = account.username; password = account.password; realm = realm }) algorithm

-- The key under which a client signs and validates.
abbrev pub standing_key : Standing → Key
standing_key standing = account_key standing.account standing.challenge.realm standing.challenge.choice

-- The key of a client with these credentials and this challenge, if both exist.
abbrev pub key_by : Option NameAndPassword → Option Challenge → Option Key
key_by account challenge = option_map standing_key (standing_by account challenge)
