-- Credentials, and the keys derived from them (RFC 8489, sections 9.1.1, 9.2.2 and 18.5.1).
use Rattle.std.specs.Prelude.{ℕ, List, ◌++◌, codes}
use Rattle.md5.specs.Md5.{md5}
use Rattle.sha2.specs.Sha256.{sha256}
use Rattle.sha2.specs.Sha512.{sha512}
use Rattle.stun_types_write.specs.Wire.declared.algorithm.IntegrityAlgorithm.{IntegrityAlgorithm}
use Rattle.stun_types_write.specs.Wire.declared.algorithm.IntegrityAlgorithm.TheVariants.{Sha1, Sha256, Sha512}

-- The bytes of a user's name and password.
pub record NameAndPassword : Type 0 where
  pub username : List ℕ
  pub password : List ℕ

-- The bytes of a user's name and password, and of the realm in which they are valid.
pub record LongTermSecret : Type 0 where
  pub username : List ℕ
  pub password : List ℕ
  pub realm : List ℕ

-- The bytes of a password.
pub record ShortTermSecret : Type 0 where
  pub password : List ℕ

-- A password, and the algorithm with which it is used.
pub record ShortTermUse : Type 0 where
  pub secret : ShortTermSecret
  pub algorithm : IntegrityAlgorithm

-- The bytes of a key, and the algorithm for which it was made.
pub record Key : Type 0 where
  pub bytes : List ℕ
  pub algorithm : IntegrityAlgorithm

-- The text username ":" realm ":" password (RFC 8489, section 9.2.2).
abbrev pub key_text : LongTermSecret → List ℕ
key_text secret = secret.username ++ codes ":" ++ secret.realm ++ codes ":" ++ secret.password

-- The digest of a key's text: MD5 or SHA-256 (RFC 8489, sections 18.5.1.1 and 18.5.1.2), or SHA-512, which is
-- an extension by this project.
abbrev pub key_digest : IntegrityAlgorithm → List ℕ → List ℕ
key_digest Sha1 text = md5 text
key_digest Sha256 text = sha256 text
key_digest Sha512 text = sha512 text

-- The key of long-term credentials for an algorithm (RFC 8489, section 9.2.2).
abbrev pub long_term_key : LongTermSecret → IntegrityAlgorithm → Key
long_term_key secret algorithm = record { bytes = key_digest algorithm (key_text secret); algorithm = algorithm }

-- The key of short-term credentials, which is the password (RFC 8489, section 9.1.1).
abbrev pub short_term_key : ShortTermSecret → IntegrityAlgorithm → Key
short_term_key secret algorithm = record { bytes = secret.password; algorithm = algorithm }

-- The bytes of a key.
abbrev pub key_bytes : Key → List ℕ
key_bytes key = key.bytes
