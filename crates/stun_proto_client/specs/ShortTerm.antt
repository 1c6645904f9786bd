-- What contracts see of short-term authentication (RFC 8489, section 9.1).
use Rattle.std.specs.Prelude.{◌≡◌, ℕ, List, [], Option, Some, None}
use Rattle.stun_proto_auth.specs.Wire.declared.algorithm.IntegrityAlgorithm.{IntegrityAlgorithm}
use Rattle.stun_proto_auth.specs.Integrity.Credentials.{Key, ShortTermSecret, short_term_key}
use Rattle.stun_proto_auth.specs.Addition.{Addition, no_addition}
use Rattle.stun_proto_client.specs.Digests.{IsRight, IsWrong}

-- A password, and the algorithm with which it is used.
pub record ShortAccount : Type 0 where
  pub secret : ShortTermSecret
  pub algorithm : IntegrityAlgorithm

-- The credentials, if they are set.
pub record ShortTerm : Type 0 where
  pub account : Option ShortAccount

-- The key of an account is its password.
abbrev pub short_key : ShortAccount → Key
short_key account = short_term_key account.secret account.algorithm

-- The result of validating a message. It is `None` without credentials, otherwise the algorithm of the
-- credentials, and the message validates under their key.
abbrev pub IsShortAnswer : Option ShortAccount → List ℕ → Option IntegrityAlgorithm → Type 0
IsShortAnswer None bytes answer = answer ≡ None
IsShortAnswer (Some account) bytes answer = (answer ≡ Some account.algorithm) × IsRight bytes (short_key account)

-- A message is refused: there are credentials, and it does not validate under their key.
abbrev pub IsShortRefused : Option ShortAccount → List ℕ → Type 0
IsShortRefused None bytes = ⊥
IsShortRefused (Some account) bytes = IsWrong bytes (short_key account)

-- What is added to a message: the integrity attribute, or nothing without credentials.
abbrev pub short_addition : Option ShortAccount → Addition
short_addition None = no_addition
short_addition (Some account) = record { parts = []; signer = Some (short_key account) }
